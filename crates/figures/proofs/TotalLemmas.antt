-- What totals gain, one superstep later.
use Rattle.std.proofs.Common.{◌≡◌, ℕ, suc, ◌+◌, ◌-◌, ◌*◌, ◌/◌, ◌^◌, ◌≤◌, List, slice_index, ap, ap₂, sym, ◌∙◌, arith}
use Rattle.std.specs.List.{sum_by, range_with_len}
use Rattle.std.proofs.Math.Nat.{div-mul-le_self}
use Rattle.std.proofs.lemmas.Nat.{le-div, pow_pos, shr-shr}
use Rattle.ball_model.proofs.TallyLemmas.{sum_from}

-- the gain of one superstep
abbrev pub step_of : List ℕ → ℕ → ℕ
step_of totals i = (slice_index totals i - slice_index totals (i - 1)) / 2 ^ i

-- the sum with the step at i
pub gain_more : (totals : List ℕ) (i sum part : ℕ) → 1 ≤ i → sum ≡ sum_by (step_of totals) (range_with_len 1 (i - 1)) → part ≡ step_of totals i →
    sum + part ≡ sum_by (step_of totals) (range_with_len 1 (i + 1 - 1))
gain_more totals i sum part from before is =
    let f = step_of totals in
    let next : suc (i - 1) ≡ i + 1 - 1 = omega arith in
    let here : 1 + (i - 1) ≡ i = omega arith in
    ap₂ (λ (a b : ℕ). a + b) before (is ∙ ap f (sym here)) ∙ sym (sum_from f 1 (i - 1)) ∙ ap (λ k. sum_by f (range_with_len 1 k)) next

-- a rise at i takes no more than half of the room before it, and the other half is left
pub room_more : (most x i sum part : ℕ) → 1 ≤ i → x ≤ most → part ≡ x / 2 ^ i → sum + most / 2 ^ (i - 1) ≤ most → sum + part + most / 2 ^ (i + 1 - 1) ≤ most
room_more most x i sum part from small is room =
    let at : i - 1 + 1 ≡ i = omega arith in
    let after : i + 1 - 1 ≡ i = omega arith in
    let half : most / 2 ^ (i - 1) / 2 ≡ most / 2 ^ i = shr-shr most (i - 1) 1 ∙ ap (λ k. most / 2 ^ k) at in
    let left : most / 2 ^ (i + 1 - 1) ≡ most / 2 ^ i = ap (λ k. most / 2 ^ k) after in
    let within : x / 2 ^ i * 2 ^ i ≤ x = div-mul-le_self x (2 ^ i) in
    let below : x / 2 ^ i ≤ most / 2 ^ i = le-div (x / 2 ^ i) most (2 ^ i) (pow_pos i) (omega arith) in
    let both : most / 2 ^ (i - 1) / 2 * 2 ≤ most / 2 ^ (i - 1) = div-mul-le_self (most / 2 ^ (i - 1)) 2 in
    fits sum part (most / 2 ^ (i - 1)) (most / 2 ^ (i - 1) / 2) (x / 2 ^ i) (most / 2 ^ i) (most / 2 ^ (i + 1 - 1)) most room is below half both left
  where
    fits : (sum part was half gained now left most : ℕ) → sum + was ≤ most → part ≡ gained → gained ≤ now → half ≡ now → half * 2 ≤ was → left ≡ now → sum + part + left ≤ most
    fits sum part was half gained now left most room is below same both at = omega arith
