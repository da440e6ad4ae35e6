-- Rows that are blank, and records that are a name, by their first field and their length.
use Rattle.std.proofs.Common.{◌≡◌, ℕ, List, [], ◌∷◌, true, false, refl, Some, None, length, arith}
use Rattle.std.specs.Prelude.{◌==◌}
use Rattle.std.proofs.lemmas.Bool.{false≢true}
use Rattle.std.proofs.Math.Dec.{eqb-suc-zero}
use Rattle.csv.specs.Records.{field_at}
use Rattle.ball_model.specs.Counting.{is_name}
use Rattle.graph.specs.Records.{is_blank}

-- a row of one field is blank where that is empty
pub blank-one : (fs : List (List ℕ)) (s : List ℕ) → length fs ≡ 1 → Some s ≡ field_at fs 0 → (length s == 0) ≡ is_blank fs
unfolding field_at
blank-one [] s n a = cc a
blank-one (f ∷ g ∷ fs) s n a = absurd (omega arith)
blank-one ([] ∷ []) s n a = let same : s ≡ [] = cc a in rw same refl
blank-one ((x ∷ l) ∷ []) s n a = let same : s ≡ x ∷ l = cc a in rw (same, eqb-suc-zero (length l)) refl

pub blank-none : (fs : List (List ℕ)) → None ≡ field_at fs 0 → false ≡ is_blank fs
unfolding field_at
blank-none [] a = refl
blank-none (f ∷ fs) a = cc a

-- a record is a name where it is one field that is not empty
pub name-none : (fs : List (List ℕ)) → None ≡ field_at fs 0 → is_name fs ≡ false
unfolding field_at
name-none [] a = refl
name-none (f ∷ fs) a = cc a

pub name-one : (fs : List (List ℕ)) (s : List ℕ) → length fs ≡ 1 → Some s ≡ field_at fs 0 → fs ≡ s ∷ []
unfolding field_at
name-one [] s n a = cc a
name-one (f ∷ []) s n a = cc a
name-one (f ∷ g ∷ fs) s n a = absurd (omega arith)

pub name-empty : (fs : List (List ℕ)) (s : List ℕ) → length fs ≡ 1 → Some s ≡ field_at fs 0 → (length s == 0) ≡ true → is_name fs ≡ false
name-empty fs [] n a z = rw (name-one fs [] n a) refl
name-empty fs (x ∷ l) n a z = absurd (false≢true (rw (eqb-suc-zero (length l)) at z))

pub name-is : (fs : List (List ℕ)) (s : List ℕ) → length fs ≡ 1 → Some s ≡ field_at fs 0 → (length s == 0) ≡ false → is_name fs ≡ true
name-is fs [] n a z = cc z
name-is fs (x ∷ l) n a z = rw (name-one fs (x ∷ l) n a) refl
