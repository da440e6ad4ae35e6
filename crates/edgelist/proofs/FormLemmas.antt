-- The form of a record, by its first two fields and its length.
use Rattle.std.proofs.Common.{◌≡◌, ◌<◌, ◌≤◌, ℕ, List, [], ◌∷◌, true, false, refl, Some, None, length, arith}
use Rattle.std.specs.Prelude.{◌==◌, not}
use Rattle.std.proofs.lemmas.Bool.{false≢true}
use Rattle.std.proofs.Math.Dec.{eqb-suc-zero}
use Rattle.csv.specs.Records.{field_at}
use Rattle.ball_model.specs.Input.{has_form}

pub form-none : (fs : List (List ℕ)) → None ≡ field_at fs 0 → false ≡ has_form fs
unfolding field_at
form-none [] e = refl
form-none (f ∷ fs) e = cc e

pub form-empty : (fs : List (List ℕ)) (s : List ℕ) → Some s ≡ field_at fs 0 → (length s == 0) ≡ true → false ≡ has_form fs
unfolding field_at
form-empty [] s e z = refl
form-empty ([] ∷ []) s e z = refl
form-empty ([] ∷ g ∷ []) s e z = refl
form-empty ((a ∷ l) ∷ []) s e z = let same : s ≡ a ∷ l = cc e in absurd (false≢true (rw (same, eqb-suc-zero (length l)) at z))
form-empty ((a ∷ l) ∷ g ∷ []) s e z = let same : s ≡ a ∷ l = cc e in absurd (false≢true (rw (same, eqb-suc-zero (length l)) at z))
form-empty (f ∷ g ∷ h ∷ fs) s e z = refl

pub form-long : (fs : List (List ℕ)) → 2 < length fs → false ≡ has_form fs
form-long [] h = refl
form-long (f ∷ []) h = absurd (omega arith)
form-long (f ∷ g ∷ []) h = absurd (omega arith)
form-long (f ∷ g ∷ k ∷ fs) h = refl

pub form-one : (fs : List (List ℕ)) (s : List ℕ) → Some s ≡ field_at fs 0 → (length s == 0) ≡ false → None ≡ field_at fs 1 → true ≡ has_form fs
unfolding field_at
form-one [] s e z n = cc e
form-one ([] ∷ fs) s e z n = let same : s ≡ [] = cc e in cc (rw same at z)
form-one ((a ∷ l) ∷ []) s e z n = refl
form-one ((a ∷ l) ∷ f ∷ fs) s e z n = cc n

pub form-two : (fs : List (List ℕ)) (s t : List ℕ) → Some s ≡ field_at fs 0 → (length s == 0) ≡ false → Some t ≡ field_at fs 1 → length fs ≤ 2
    → not (length t == 0) ≡ has_form fs
unfolding field_at
form-two [] s t e z n h = cc e
form-two ([] ∷ fs) s t e z n h = let same : s ≡ [] = cc e in cc (rw same at z)
form-two ((a ∷ l) ∷ []) s t e z n h = cc n
form-two ((a ∷ l) ∷ [] ∷ []) s t e z n h = let same : t ≡ [] = cc n in rw same refl
form-two ((a ∷ l) ∷ (b ∷ m) ∷ []) s t e z n h = let same : t ≡ b ∷ m = cc n in rw (same, eqb-suc-zero (length m)) refl
form-two ((a ∷ l) ∷ g ∷ f ∷ fs) s t e z n h = absurd (omega arith)

-- a record of the right form is its first field, or its first two
pub one-field : (fs : List (List ℕ)) (s : List ℕ) → Some s ≡ field_at fs 0 → None ≡ field_at fs 1 → fs ≡ s ∷ []
unfolding field_at
one-field [] s a b = cc a
one-field (f ∷ []) s a b = cc a
one-field (f ∷ g ∷ fs) s a b = cc b

pub two-fields : (fs : List (List ℕ)) (s t : List ℕ) → has_form fs ≡ true → Some s ≡ field_at fs 0 → Some t ≡ field_at fs 1 → fs ≡ s ∷ t ∷ []
unfolding field_at
two-fields [] s t f a b = cc a
two-fields (x ∷ []) s t f a b = cc b
two-fields (x ∷ y ∷ []) s t f a b = cc (a, b)
two-fields (x ∷ y ∷ z ∷ fs) s t f a b = cc f
