use Rattle.std.proofs.Common.{◌≡◌, ℕ, zero, suc, ◌+◌, ◌-◌, ◌<◌, ◌≤◌, ◌^◌, ◌*◌, ◌/◌, ◌%◌, inl, inr, Bool, false, nat_le, nat_eq, if◌then◌else◌, ◌==◌, bit_and, add-one, mul_comm, arith, ◌∙◌, sym, ap, refl, tests}
use Rattle.std.specs.Int.Count.{count_leading_zeros, leading_of_zero}
use Rattle.std.proofs.lemmas.Nat.{leading_top, and_mask, pow_pos, pow-add}
use Rattle.std.proofs.Math.Nat.{pow-le-pow_right, div-lt_iff_lt-mul}
use Rattle.std.proofs.lemmas.Bool.{cases_lt, le-leb, leb-true}
use Rattle.ball_model.specs.Hash.{floor_log2, rank_of, tail_of}
use Rattle.ball_model.specs.Greatest.{greatest}
use Rattle.ball_model.proofs.GreatestLemmas.{greatest-bounds, greatest-least}

-- a number between two powers has the lower one's exponent
pub floor_log2-between : (n j : ℕ) → 2 ^ j ≤ n → n < 2 ^ (j + 1) → j < 32 → floor_log2 n ≡ j
unfolding floor_log2
floor_log2-between n j low high lt =
    let p : ℕ → Bool = λ i. nat_le (2 ^ i) n in
    let f : ℕ → ℕ = λ i. i in
    let above : j ≤ greatest p f 32 = greatest-bounds p f 32 j lt (le-leb (2 ^ j) n low) in
    let below : greatest p f 32 ≤ j = greatest-least p f 32 j (λ i small pass.
    elim (cases_lt j i) [
      | inl more ↦ let le : 2 ^ (j + 1) ≤ 2 ^ i = pow-le-pow_right (omega arith) (omega arith) in absurd (omega (arith, leb-true (2 ^ i) n pass))
      | inr less ↦ less
    ]) in
    omega arith

-- what the code computes is the rank
rank_at : (tail : ℕ) → tail < 2 ^ 32 → count_leading_zeros 32 tail + 1 ≡ (if tail == 0 then 33 else 32 - floor_log2 tail)
rank_at zero small = rw (leading_of_zero 32) refl
rank_at (suc k) small =
    let top = leading_top 32 (suc k) (omega arith) small in
    let j = top.0 in
    let e : floor_log2 (suc k) ≡ j = floor_log2-between (suc k) j top.2 (rw add-one top.3) (omega (arith, top.1)) in
    let nonzero : nat_eq (suc k) 0 ≡ false = search (tests, arith) in
    rw nonzero (omega (arith, top.1, e))

pub rank_of-code : (log2m hash : ℕ) → count_leading_zeros 32 (bit_and (hash / 2 ^ (32 - log2m)) (2 ^ 32 - 1)) + 1 ≡ rank_of log2m hash
unfolding rank_of tail_of
rank_of-code log2m hash =
    rw (and_mask (hash / 2 ^ (32 - log2m)) 32) (rank_at (hash / 2 ^ (32 - log2m) % 2 ^ 32) (omega (arith, pow_pos 32)))

-- the top bits of a hash are few
pub index_of-lt : (log2m hash : ℕ) → log2m ≤ 10 → hash < 2 ^ 64 → hash / 2 ^ (64 - log2m) < 2 ^ log2m
index_of-lt log2m hash few small =
    let whole : (64 - log2m) + log2m ≡ 64 = omega arith in
    let e : 2 ^ (64 - log2m) * 2 ^ log2m ≡ 2 ^ 64 = sym (pow-add 2 (64 - log2m) log2m) ∙ ap (λ k. 2 ^ k) whole in
    (div-lt_iff_lt-mul (pow_pos (64 - log2m))).1 (rw (mul_comm (2 ^ log2m) (2 ^ (64 - log2m)), e) small)
