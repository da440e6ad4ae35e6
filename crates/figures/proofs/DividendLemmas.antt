-- The dividends of estimates, each divided by its factor, and divisions in two steps.
use Rattle.std.proofs.Common.{◌≡◌, ℕ, ◌+◌, ◌-◌, ◌*◌, ◌/◌, ◌%◌, ◌^◌, ◌<◌, ◌≤◌, lit<, get_or, map, ap, sym, ◌∙◌, arith}
use Rattle.std.specs.List.{range_with_len}
use Rattle.std.proofs.lemmas.List.FromFn.{get_or-map-range_with_len}
use Rattle.std.proofs.lemmas.Nat.{div-add-mod'}
use Rattle.std.proofs.Math.Nat.{div-div-eq-div-mul, mul-add-div, mod-lt}
use Rattle.ball_model.specs.Figures.{dividend_of, factor_of}
use Rattle.ball_model.proofs.EstimateLemmas.{seven}

-- alpha * m^2 * 2^33 in millionths, rounded down
abbrev pub whole : ℕ → ℕ
whole log2m = dividend_of log2m / factor_of log2m

-- what the table has for 2^log2m registers
pub whole_at : (place log2m : ℕ) → place ≡ log2m - 4 → 4 ≤ log2m → log2m ≤ 10 → get_or (map whole (range_with_len 4 7)) place 0 ≡ whole log2m
whole_at place log2m is low high = get_or-map-range_with_len whole 4 7 place log2m 0 (omega arith) (omega arith)

pub whole_small : (log2m : ℕ) → 4 ≤ log2m → log2m ≤ 10 → whole log2m < 2 ^ 73
unfolding dividend_of factor_of
whole_small log2m low high = seven (λ b. whole b < 2 ^ 73) (lit< tt) (lit< tt) (lit< tt) (lit< tt) (lit< tt) (lit< tt) (lit< tt) log2m low high

-- an estimate is made of it
pub estimate_whole : (log2m inverses dividend : ℕ) → dividend ≡ whole log2m → dividend / inverses ≡ dividend_of log2m / (factor_of log2m * inverses)
estimate_whole log2m inverses dividend is = ap (λ d. d / inverses) is ∙ div-div-eq-div-mul (dividend_of log2m) (factor_of log2m) inverses

-- a division of all but the lowest bits, and one of these with the remainder
in_steps : (dividend high low by : ℕ) → 0 < by → dividend ≡ high * 2 ^ 20 + low → high / by * 2 ^ 20 + (high % by * 2 ^ 20 + low) / by ≡ dividend / by
in_steps dividend high low by some is =
    let here : dividend ≡ by * (high / by * 2 ^ 20) + (high % by * 2 ^ 20 + low) = split (high / by) (high % by) (div-add-mod' high by) in
    sym (ap (λ d. d / by) here ∙ mul-add-div {m = by} some (high / by * 2 ^ 20) (high % by * 2 ^ 20 + low))
  where
    split : (q r : ℕ) → q * by + r ≡ high → dividend ≡ by * (q * 2 ^ 20) + (r * 2 ^ 20 + low)
    split q r parts = grind (arith, parts, is)

-- the division in two steps, as words of 64 bits have it
pub two_steps : (dividend by : ℕ) → 0 < by → by ≤ 2 ^ 43 → dividend / by < 2 ^ 63 →
    dividend / 2 ^ 20 / by * 2 ^ 20 % 2 ^ 64 + (dividend / 2 ^ 20 % by * 2 ^ 20 % 2 ^ 64 + dividend % 2 ^ 20) / by ≡ dividend / by
two_steps dividend by some few small =
    let high = dividend / 2 ^ 20 in
    let low = dividend % 2 ^ 20 in
    let steps = in_steps dividend high low by some (omega arith) in
    let rest : high % by * 2 ^ 20 % 2 ^ 64 ≡ high % by * 2 ^ 20 = omega (arith, mod-lt high {m = by} some) in
    rw rest (omega (arith, steps))
