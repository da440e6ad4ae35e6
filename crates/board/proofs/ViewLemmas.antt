-- Lists of views with one view changed.
use Rattle.std.proofs.Common.{◌≡◌, ◌≢◌, inl, inr, ◌⊎◌, ℕ, zero, suc, ◌+◌, ◌<◌, ◌≤◌, List, [], ◌∷◌, ◌++◌, length, set, refl, sym, ap, ◌∙◌, subst, ⊎_elim, arith}
use mathlib.Core.Option.{some, some-injective, some-ne-none}
use lib.ListN.{get_elem?}
use Rattle.std.proofs.lemmas.List.{length-append, length-set}
use Rattle.atomic_table.proofs.Lists.{at_last, at_longer, at_set}
use Rattle.board.specs.View.{View}
use Rattle.board.specs.Rule.{total, AreApart, AreNumbersOf}

pub total_set : (f : View → ℕ) (views : List View) (i : ℕ) (v w : View) → get_elem? views i ≡ some v → total f (set views i w) + f v ≡ total f views + f w
total_set f [] i v w e = absurd (some-ne-none v (sym e))
total_set f (u ∷ us) zero v w e = let same : f u ≡ f v = ap f (some-injective u v e) in omega arith
total_set f (u ∷ us) (suc i) v w e = let t = total_set f us i v w e in omega arith

pub total_le : (f g : View → ℕ) (views : List View) → ((i : ℕ) (v : View) → get_elem? views i ≡ some v → f v ≤ g v) → total f views ≤ total g views
total_le f g [] h = omega arith
total_le f g (u ∷ us) h = let a = h 0 u refl in let b = total_le f g us (λ i v e. h (suc i) v e) in omega arith

pub total_push : (f : View → ℕ) (views : List View) (w : View) → total f (views ++ w ∷ []) ≡ total f views + f w
total_push f [] w = omega arith
total_push f (u ∷ us) w = let t = total_push f us w in omega arith

pub each_set : (K : View → Type 0) (views : List View) (i : ℕ) (w : View) → K w → ((j : ℕ) (u : View) → j ≢ i → get_elem? views j ≡ some u → K u) → (j : ℕ) (u : View) → get_elem? (set views i w) j ≡ some u → K u
each_set K views i w mine others j u e =
    ⊎_elim (λ (x : (j ≡ i) × (w ≡ u)). subst K x.1 mine) (λ (x : (j ≢ i) × (get_elem? views j ≡ some u)). others j u x.0 x.1) (at_set views i j w u e)

-- each two of those that Q names are apart, where the changed one is apart from the others
pub apart_set_on : (Q : ℕ → Type 0) (views : List View) (i : ℕ) (w : View)
    → ((j k : ℕ) (u x : View) → Q j → Q k → j ≢ i → k ≢ i → j ≢ k → get_elem? views j ≡ some u → get_elem? views k ≡ some x → AreApart u x)
    → ((j : ℕ) (u : View) → Q j → j ≢ i → get_elem? views j ≡ some u → AreApart w u × AreApart u w)
    → (j k : ℕ) (u x : View) → Q j → Q k → j ≢ k → get_elem? (set views i w) j ≡ some u → get_elem? (set views i w) k ≡ some x → AreApart u x
apart_set_on Q views i w old new j k u x qj qk ne e f =
    ⊎_elim
    (λ (a : (j ≡ i) × (w ≡ u)). ⊎_elim
    (λ (b : (k ≡ i) × (w ≡ x)). absurd (ne (a.0 ∙ sym b.0)))
    (λ (b : (k ≢ i) × (get_elem? views k ≡ some x)). subst (λ (z : View). AreApart z x) a.1 (new k x qk b.0 b.1).0)
    (at_set views i k w x f))
    (λ (a : (j ≢ i) × (get_elem? views j ≡ some u)). ⊎_elim
    (λ (b : (k ≡ i) × (w ≡ x)). subst (λ (z : View). AreApart u z) b.1 (new j u qj a.0 a.1).1)
    (λ (b : (k ≢ i) × (get_elem? views k ≡ some x)). old j k u x qj qk a.0 b.0 ne a.1 b.1)
    (at_set views i k w x f))
    (at_set views i j w u e)

pub apart_set : (views : List View) (i : ℕ) (w : View)
    → ((j k : ℕ) (u x : View) → j ≢ k → get_elem? views j ≡ some u → get_elem? views k ≡ some x → AreApart u x)
    → ((j : ℕ) (u : View) → j ≢ i → get_elem? views j ≡ some u → AreApart w u × AreApart u w)
    → (j k : ℕ) (u x : View) → j ≢ k → get_elem? (set views i w) j ≡ some u → get_elem? (set views i w) k ≡ some x → AreApart u x
apart_set views i w old new j k u x ne e f = apart_set_on (λ _. Unit {0}) views i w (λ j k u x _ _ _ _ ne e f. old j k u x ne e f) (λ j u _ ne e. new j u ne e) j k u x tt tt ne e f

pub set_at : {A : Type 0} (l : List A) (i : ℕ) (v w : A) → get_elem? l i ≡ some v → get_elem? (set l i w) i ≡ some w
set_at [] i v w e = absurd (some-ne-none v (sym e))
set_at (x ∷ xs) zero v w e = refl
set_at (x ∷ xs) (suc i) v w e = set_at xs i v w e

pub at_push : {A : Type 0} (l : List A) (a b : A) (j : ℕ) → get_elem? (l ++ a ∷ []) j ≡ some b → ((get_elem? l j ≡ some b) × (j < length l)) ⊎ ((a ≡ b) × (j ≡ length l))
at_push [] a b zero e = inr (some-injective a b e, refl)
at_push [] a b (suc j) e = absurd (some-ne-none b (sym e))
at_push (x ∷ xs) a b zero e = inl (e, omega arith)
at_push (x ∷ xs) a b (suc j) e = ⊎_elim (λ (t : (get_elem? xs j ≡ some b) × (j < length xs)). inl (t.0, omega (arith, t.1))) (λ (t : (a ≡ b) × (j ≡ length xs)). inr (t.0, ap suc t.1)) (at_push xs a b j e)

pub each_push : (K : View → Type 0) (views : List View) (w : View) → K w → ((j : ℕ) (u : View) → get_elem? views j ≡ some u → K u) → (j : ℕ) (u : View) → get_elem? (views ++ w ∷ []) j ≡ some u → K u
each_push K views w mine others j u e =
    ⊎_elim (λ (x : (get_elem? views j ≡ some u) × (j < length views)). others j u x.0) (λ (x : (w ≡ u) × (j ≡ length views)). subst K x.0 mine) (at_push views w u j e)

pub apart_push : (views : List View) (w : View)
    → ((j k : ℕ) (u x : View) → j ≢ k → get_elem? views j ≡ some u → get_elem? views k ≡ some x → AreApart u x)
    → ((j : ℕ) (u : View) → get_elem? views j ≡ some u → AreApart w u × AreApart u w)
    → (j k : ℕ) (u x : View) → j ≢ k → get_elem? (views ++ w ∷ []) j ≡ some u → get_elem? (views ++ w ∷ []) k ≡ some x → AreApart u x
apart_push views w old new j k u x ne e f =
    ⊎_elim
    (λ (a : (get_elem? views j ≡ some u) × (j < length views)). ⊎_elim
    (λ (b : (get_elem? views k ≡ some x) × (k < length views)). old j k u x ne a.0 b.0)
    (λ (b : (w ≡ x) × (k ≡ length views)). subst (λ (z : View). AreApart u z) b.0 (new j u a.0).1)
    (at_push views w x k f))
    (λ (a : (w ≡ u) × (j ≡ length views)). ⊎_elim
    (λ (b : (get_elem? views k ≡ some x) × (k < length views)). subst (λ (z : View). AreApart z x) a.0 (new k x b.0).0)
    (λ (b : (w ≡ x) × (k ≡ length views)). absurd (ne (a.1 ∙ sym b.1)))
    (at_push views w x k f))
    (at_push views w u j e)

-- ---- the numbers of all seats
pub numbers_set : (numbers : List ℕ) (views : List View) (i : ℕ) (v w : View) → AreNumbersOf numbers views → get_elem? views i ≡ some v → (0 < w.room → (0 < v.room) × (v.number ≡ w.number)) → AreNumbersOf numbers (set views i w)
numbers_set numbers views i v w h at same = record {
  one_each = h.one_each ∙ sym (length-set views i w);
  own = λ j u e live.
      ⊎_elim
      (λ (x : (j ≡ i) × (w ≡ u)).
      let p = same (subst (λ (z : View). 0 < z.room) (sym x.1) live) in
      ap (get_elem? numbers) x.0 ∙ (h.own i v at p.0 ∙ ap some (p.1 ∙ ap (λ (z : View). z.number) x.1)))
      (λ (x : (j ≢ i) × (get_elem? views j ≡ some u)). h.own j u x.1 live)
      (at_set views i j w u e);
}

pub numbers_push : (numbers : List ℕ) (views : List View) (w : View) → AreNumbersOf numbers views → AreNumbersOf (numbers ++ w.number ∷ []) (views ++ w ∷ [])
numbers_push numbers views w h =
    let more : length (numbers ++ w.number ∷ []) ≡ length numbers + 1 = length-append numbers (w.number ∷ []) in
    let many : length (views ++ w ∷ []) ≡ length views + 1 = length-append views (w ∷ []) in
    record {
      one_each = more ∙ (ap (λ (n : ℕ). n + 1) h.one_each ∙ sym many);
      own = λ j u e live.
          ⊎_elim
          (λ (x : (get_elem? views j ≡ some u) × (j < length views)). at_longer numbers (w.number ∷ []) j u.number (h.own j u x.0 live))
          (λ (x : (w ≡ u) × (j ≡ length views)). at_last numbers w.number j (h.one_each ∙ sym x.1) ∙ ap (λ (z : View). some z.number) x.0)
          (at_push views w u j e);
    }
