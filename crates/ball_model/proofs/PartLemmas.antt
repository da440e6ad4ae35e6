-- The vertices of a partition.
use Rattle.std.proofs.Common.{◌≡◌, ℕ, zero, suc, ◌+◌, ◌-◌, ◌*◌, ◌/◌, ◌%◌, ◌<◌, Bool, true, false, ◌==◌, if◌then◌else◌, List, [], ◌∷◌, ◌++◌, map, length, refl, ap, arith, sym, ◌∙◌, inl, inr}
use Rattle.std.specs.List.{filter, range_with_len}
use Rattle.std.proofs.lemmas.Bool.{cases_lt, eqb-true}
use Rattle.std.proofs.lemmas.Bool.Decides.{nat_tests}
use Rattle.std.proofs.lemmas.List.{append-nil}
use Rattle.std.proofs.lemmas.List.Elements.{filter-append}
use Rattle.std.proofs.lemmas.List.FromFn.{map-range_with_len_more, length-map-range_with_len}
use Rattle.std.proofs.lemmas.Nat.{div-mul-add}
use Rattle.std.proofs.Math.Nat.{div-add-mod, mod-lt}
use Rattle.ball_model.specs.PlanValue.{vertices_of, part_size}

-- a range with one number more
pub range_push : (a n : ℕ) → range_with_len a (suc n) ≡ range_with_len a n ++ (a + n) ∷ []
range_push a zero = let here : a + 0 ≡ a = omega arith in rw here refl
range_push a (suc n) = let at : a + suc n ≡ (a + 1) + n = omega arith in rw at (ap (λ (l : List ℕ). a ∷ l) (range_push (a + 1) n))

pub range_more : (n : ℕ) → range_with_len 0 (n + 1) ≡ range_with_len 0 n ++ n ∷ []
range_more n =
    let next : n + 1 ≡ suc n = omega arith in
    let at : 0 + n ≡ n = omega arith in
    ap (range_with_len 0) next ∙ range_push 0 n ∙ ap (λ k. range_with_len 0 n ++ k ∷ []) at

-- how many vertices below n a partition has, as it is computed
pub strided : ℕ → ℕ → ℕ → ℕ
strided n parts p = (n + (parts - 1 - p)) / parts

div_is : (n a w b : ℕ) → n ≡ a * w + b → b < w → n / w ≡ a
div_is n a w b is lt = ap (λ k. k / w) is ∙ div-mul-add a w b lt

apart : (b : Bool) (r p : ℕ) → (r == p) ≡ b → b ≡ false → (r < p → ⊥) → p < r
apart b r p at off not_less = grind (arith, nat_tests)

-- vertex n is the next of its partition
own_next : (n parts p : ℕ) → p < parts → n % parts ≡ p → (strided (n + 1) parts p ≡ strided n parts p + 1) × (n ≡ strided n parts p * parts + p)
unfolding strided
own_next n parts p lt at =
    let q = n / parts in
    let whole : parts * q + n % parts ≡ n = div-add-mod n parts in
    let now : (n + (parts - 1 - p)) / parts ≡ q = div_is _ q parts (parts - 1) (omega arith) (omega arith) in
    let next : (n + 1 + (parts - 1 - p)) / parts ≡ q + 1 = div_is _ (q + 1) parts 0 (omega arith) (omega arith) in
    (rw (now, next) refl, rw now (omega arith))

-- vertex n is of another partition
other_next : (n parts p : ℕ) → p < parts → (n % parts == p) ≡ false → strided (n + 1) parts p ≡ strided n parts p
unfolding strided
other_next n parts p lt off =
    let q = n / parts in
    let r = n % parts in
    let whole : parts * q + r ≡ n = div-add-mod n parts in
    let small : r < parts = mod-lt n (omega arith) in
    elim (cases_lt r p) [
      | inl below ↦
          let now : (n + (parts - 1 - p)) / parts ≡ q = div_is _ q parts (r + (parts - 1 - p)) (omega arith) (omega arith) in
          let next : (n + 1 + (parts - 1 - p)) / parts ≡ q = div_is _ q parts (r + 1 + (parts - 1 - p)) (omega arith) (omega arith) in
          rw (now, next) refl
      | inr above ↦
          let more : p < r = apart _ r p off refl (λ h. omega arith) in
          let now : (n + (parts - 1 - p)) / parts ≡ q + 1 = div_is _ (q + 1) parts (r - 1 - p) (omega arith) (omega arith) in
          let next : (n + 1 + (parts - 1 - p)) / parts ≡ q + 1 = div_is _ (q + 1) parts (r - p) (omega arith) (omega arith) in
          rw (now, next) refl
    ]

-- one number more is tried
more_case : (b : Bool) (n parts p : ℕ) → p < parts → (n % parts == p) ≡ b →
    map (λ i. i * parts + p) (range_with_len 0 (strided n parts p)) ++ (if b then (n ∷ []) else []) ≡ map (λ i. i * parts + p) (range_with_len 0 (strided (n + 1) parts p))
more_case true n parts p lt at =
    let h = own_next n parts p lt (eqb-true _ _ at) in
    ap (λ k. map (λ i. i * parts + p) (range_with_len 0 (strided n parts p)) ++ k ∷ []) h.1
    ∙ sym (ap (λ k. map (λ i. i * parts + p) (range_with_len 0 k)) h.0 ∙ map-range_with_len_more (λ i. i * parts + p) 0 (strided n parts p) (strided n parts p) (omega arith))
more_case false n parts p lt at =
    append-nil _ ∙ sym (ap (λ k. map (λ i. i * parts + p) (range_with_len 0 k)) (other_next n parts p lt at))

strided_zero : (parts p : ℕ) → p < parts → strided 0 parts p ≡ 0
unfolding strided
strided_zero parts p lt = div_is _ 0 parts (parts - 1 - p) (omega arith) (omega arith)

-- vertex i of a partition, in the order of its list
pub vertices_of-is : (n parts p : ℕ) → p < parts → vertices_of n parts p ≡ map (λ i. i * parts + p) (range_with_len 0 (strided n parts p))
unfolding vertices_of
vertices_of-is zero parts p lt = sym (ap (λ k. map (λ i. i * parts + p) (range_with_len 0 k)) (strided_zero parts p lt))
vertices_of-is (suc n) parts p lt =
    let next : n + 1 ≡ suc n = omega arith in
    let test : ℕ → Bool = λ v. v % parts == p in
    ap (λ k. filter test (range_with_len 0 k)) (sym next)
    ∙ ap (filter test) (range_more n)
    ∙ filter-append test (range_with_len 0 n) (n ∷ [])
    ∙ ap (λ (l : List ℕ). l ++ filter test (n ∷ [])) (vertices_of-is n parts p lt)
    ∙ more_case (n % parts == p) n parts p lt refl
    ∙ ap (λ k. map (λ i. i * parts + p) (range_with_len 0 (strided k parts p))) next

-- the number of vertices of a partition, as it is computed
pub part_size-is : (n parts p : ℕ) → p < parts → part_size n parts p ≡ (n + (parts - 1 - p)) / parts
unfolding strided
part_size-is n parts p lt = ap length (vertices_of-is n parts p lt) ∙ length-map-range_with_len (λ i. i * parts + p) 0 (strided n parts p)

-- vertex i of partition p, from 0 on, is i * parts + p
pub vertices_of-strided : (n parts p : ℕ) → p < parts → vertices_of n parts p ≡ map (λ i. i * parts + p) (range_with_len 0 (part_size n parts p))
unfolding strided
vertices_of-strided n parts p lt = vertices_of-is n parts p lt ∙ ap (λ k. map (λ i. i * parts + p) (range_with_len 0 k)) (sym (part_size-is n parts p lt))
