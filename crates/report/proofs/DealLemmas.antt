-- What is summed over all vertices is the sum over the partitions to which they are dealt.
use Rattle.std.proofs.Common.{◌≡◌, ℕ, zero, suc, ◌+◌, ◌%◌, ◌<◌, ◌≤◌, Bool, true, false, ◌==◌, List, [], ◌∷◌, length, get_or, if◌then◌else◌, refl, ap, ap₂, arith, sym, ◌∙◌, inl, inr}
use Rattle.std.specs.List.{filter, range_with_len, sum_by}
use Rattle.std.proofs.lemmas.List.Sums.{sum_by-cons}
use Rattle.std.proofs.lemmas.Bool.{cases_lt, eq-eqb, ne_eqb}
use Rattle.ball_model.specs.PlanValue.{vertices_of}

regroup : (a b c d : ℕ) → a + b + (c + d) ≡ a + c + (b + d)
regroup a b c d = omega arith

sum_both : (h k : ℕ → ℕ) (ps : List ℕ) → sum_by (λ p. h p + k p) ps ≡ sum_by h ps + sum_by k ps
sum_both h k [] = refl
sum_both h k (p ∷ ps) = rw (sum_by-cons (λ p. h p + k p) p ps, sum_by-cons h p ps, sum_by-cons k p ps, sum_both h k ps) (regroup (h p) (k p) (sum_by h ps) (sum_by k ps))

sum_same : (h k : ℕ → ℕ) (ps : List ℕ) → ((p : ℕ) → h p ≡ k p) → sum_by h ps ≡ sum_by k ps
sum_same h k [] e = refl
sum_same h k (p ∷ ps) e = sum_by-cons h p ps ∙ ap₂ (λ (a b : ℕ). a + b) (e p) (sum_same h k ps e) ∙ sym (sum_by-cons k p ps)

sum_zeros : (ps : List ℕ) → sum_by (λ p. 0) ps ≡ 0
sum_zeros [] = refl
sum_zeros (p ∷ ps) = rw (sum_zeros ps) refl

-- a number where its partition's turn comes, and 0 elsewhere
abbrev once : ℕ → ℕ → ℕ → ℕ
once x c p = if x == p then c else 0

sum_none : (x c a n : ℕ) → x < a → sum_by (once x c) (range_with_len a n) ≡ 0
sum_none x c a zero lt = refl
sum_none x c a (suc n) lt = rw (sum_by-cons (once x c) a (range_with_len (a + 1) n), ne_eqb x a (λ e. omega arith), sum_none x c (a + 1) n (omega arith)) refl

sum_once : (x c a n : ℕ) → a ≤ x → x < a + n → sum_by (once x c) (range_with_len a n) ≡ c
sum_once x c a zero low high = absurd (omega arith)
sum_once x c a (suc n) low high =
    elim (cases_lt a x) [
      | inl later ↦ rw (sum_by-cons (once x c) a (range_with_len (a + 1) n), ne_eqb x a (λ e. omega arith), sum_once x c (a + 1) n (omega arith) (omega arith)) (plus_left c)
      | inr at ↦
          let here : x ≡ a = omega arith in
          rw (sum_by-cons (once x c) a (range_with_len (a + 1) n), eq-eqb x a here, sum_none x c (a + 1) n (omega arith)) (plus_right c)
    ]
  where
    plus_left : (c : ℕ) → 0 + c ≡ c
    plus_left c = omega arith

    plus_right : (c : ℕ) → c + 0 ≡ c
    plus_right c = omega arith

-- one vertex of a filtered list
sum_kept : (f : ℕ → ℕ) (b : Bool) (v : ℕ) (rest : List ℕ) → sum_by f (if b then (v ∷ rest) else rest) ≡ (if b then f v else 0) + sum_by f rest
sum_kept f true v rest = sum_by-cons f v rest
sum_kept f false v rest = sym (plus (sum_by f rest))
  where
    plus : (c : ℕ) → 0 + c ≡ c
    plus c = omega arith

dealt : (f : ℕ → ℕ) (parts : ℕ) (vs : List ℕ) → 1 ≤ parts → sum_by (λ p. sum_by f (filter (λ v. v % parts == p) vs)) (range_with_len 0 parts) ≡ sum_by f vs
dealt f parts [] some = sum_zeros (range_with_len 0 parts)
dealt f parts (v ∷ vs) some =
    let rest : ℕ → ℕ = λ p. sum_by f (filter (λ v. v % parts == p) vs) in
    sum_same (λ p. sum_by f (filter (λ v. v % parts == p) (v ∷ vs))) (λ p. once (v % parts) (f v) p + rest p) (range_with_len 0 parts)
    (λ p. sum_kept f (v % parts == p) v (filter (λ v. v % parts == p) vs))
    ∙ sum_both (once (v % parts) (f v)) rest (range_with_len 0 parts)
    ∙ ap₂ (λ (a b : ℕ). a + b) (sum_once (v % parts) (f v) 0 parts (omega arith) (omega arith)) (dealt f parts vs some)
    ∙ sym (sum_by-cons f v vs)

-- the sum over all partitions
pub sum_dealt : (f : ℕ → ℕ) (n parts : ℕ) → 1 ≤ parts → sum_by (λ p. sum_by f (vertices_of n parts p)) (range_with_len 0 parts) ≡ sum_by f (range_with_len 0 n)
unfolding vertices_of
sum_dealt f n parts some = dealt f parts (range_with_len 0 n) some

-- a sum over things of which the one at place i has the value of a + i
pub sum_places : {X : Type 0} (f : X → ℕ) (h : ℕ → ℕ) (a : ℕ) (xs : List X) → ((i : ℕ) (d : X) → i < length xs → f (get_or xs i d) ≡ h (a + i)) →
    sum_by f xs ≡ sum_by h (range_with_len a (length xs))
sum_places f h a [] e = refl
sum_places f h a (x ∷ xs) e =
    let here : a + 0 ≡ a = omega arith in
    sum_by-cons f x xs
    ∙ ap₂ (λ (b c : ℕ). b + c) (e 0 x (omega arith) ∙ ap h here)
    (sum_places f h (a + 1) xs (λ i d lt.
    let next : a + suc i ≡ a + 1 + i = omega arith in
    e (suc i) d (omega arith) ∙ ap h next))
    ∙ sym (sum_by-cons h a (range_with_len (a + 1) (length xs)))
