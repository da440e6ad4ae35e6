-- Weights of counters, some registers at a time.
use Rattle.std.proofs.Common.{◌≡◌, ℕ, zero, suc, ◌+◌, ◌-◌, ◌*◌, ◌/◌, ◌%◌, ◌^◌, ◌<◌, ◌≤◌, List, length, map, get_or, take, drop, ap, sym, subst, arith}
use Rattle.std.specs.List.{range_with_len}
use Rattle.std.specs.Simd.Lanes.{chunk}
use Rattle.std.proofs.lemmas.List.{drop-take, take-take}
use Rattle.std.proofs.lemmas.List.Sums.{sum_by-le, sum_by-take-drop, sum_by-take-le, sum_by_more}
use Rattle.std.proofs.lemmas.List.FromFn.{get_or-map-range_with_len}
use Rattle.std.proofs.Math.Nat.{pow-le-pow_right}
use Rattle.std.proofs.lemmas.Nat.{pow-add}
use Rattle.std.proofs.Math.Dec.{eqb-suc-zero}
use Rattle.ball_model.specs.Figures.{inverse_sum, empty_of}
use Rattle.ball_model.proofs.EstimateLemmas.{empty_of-few, inverse_sum-low, one_where_empty}
use Rattle.figures.specs.declared.estimates.TheConstants.{EMPTY}
use Rattle.figures.specs.Values.{IsWeight, weight_of}

-- what a register adds
abbrev pub entry : ℕ → ℕ
entry r = 2 ^ (33 - r) + EMPTY * one_where_empty r

-- what the table has for a rank
pub entry_at : (place r : ℕ) → place ≡ r → r ≤ 33 → get_or (map entry (range_with_len 0 34)) place 0 ≡ entry r
entry_at place r is rank = get_or-map-range_with_len entry 0 34 place r 0 (omega arith) (omega arith)

inverse_few : (r : ℕ) → 2 ^ (33 - r) ≤ 2 ^ 33
inverse_few r = pow-le-pow_right {n = 2} (omega arith) {i = 33 - r} {j = 33} (omega arith)

one_few : (r : ℕ) → one_where_empty r ≤ 1
one_few zero = omega arith
one_few (suc r) = rw (eqb-suc-zero r) (omega arith)

pub entry_few : (r : ℕ) → entry r ≤ 2 ^ 33 + EMPTY
entry_few r = omega (arith, inverse_few r, one_few r)

-- at most 1024 registers have sums that do not meet
sums_few : (row : List ℕ) → length row ≤ 1024 → (inverse_sum row ≤ 2 ^ 43) × (empty_of row ≤ 1024)
unfolding inverse_sum
sums_few row short = (
  omega (arith, sum_by-le (λ r. 2 ^ (33 - r)) (2 ^ 33) row (λ i d lt. inverse_few (get_or row i d))),
  omega (arith, empty_of-few row),
)

pub weight_few : (row : List ℕ) → length row ≤ 1024 → weight_of row ≤ 2 ^ 61
weight_few row short = let few = sums_few row short in omega (arith, few.0, few.1)

-- and come apart again
apart : (weight inverses empty : ℕ) → weight ≡ inverses + EMPTY * empty → inverses ≤ 2 ^ 43 → (weight % EMPTY ≡ inverses) × (weight / EMPTY ≡ empty)
apart weight inverses empty is few = (omega arith, omega arith)

pub weight_apart : (row : List ℕ) (weight : ℕ) → length row ≤ 1024 → weight ≡ weight_of row → (weight % EMPTY ≡ inverse_sum row) × (weight / EMPTY ≡ empty_of row)
weight_apart row weight short is = apart weight (inverse_sum row) (empty_of row) is (sums_few row short).0

-- the weight of a counter
pub weight_fits : (log2m : ℕ) (row : List ℕ) (weight : ℕ) → length row ≡ 2 ^ log2m → length row ≤ 1024 → weight ≡ weight_of row → IsWeight log2m weight
weight_fits log2m row weight width short is =
    let a = weight_apart row weight short is in
    record {
      least = omega (arith, a.0, inverse_sum-low row, width);
      greatest = omega (arith, a.0, (sums_few row short).0);
      empty = omega (arith, a.1, empty_of-few row, width);
    }

-- what the registers before a place add
abbrev pub so_far : List ℕ → ℕ → ℕ
so_far row i = weight_of (take i row)

pub so_far_le : (row : List ℕ) (i : ℕ) → so_far row i ≤ weight_of row
unfolding inverse_sum
so_far_le row i = omega (arith, sum_by-take-le (λ r. 2 ^ (33 - r)) row i, sum_by-take-le one_where_empty row i)

-- with one register more
sum_more : (sum : ℕ) (row : List ℕ) (i j : ℕ) → i < length row → j ≡ i + 1 → sum ≡ so_far row i → sum + entry (get_or row i 0) ≡ so_far row j
unfolding inverse_sum
sum_more sum row i j lt next is =
    let inverses = sum_by_more (λ r. 2 ^ (33 - r)) row i 0 lt in
    let empty = sum_by_more one_where_empty row i 0 lt in
    let here : sum + entry (get_or row i 0) ≡ so_far row (i + 1) = omega (arith, is, inverses, empty) in
    subst (λ (n : ℕ). sum + entry (get_or row i 0) ≡ so_far row n) (sym next) here

-- with four registers more
pub four_more : (sum : ℕ) (row : List ℕ) (k i : ℕ) → i ≡ 4 * k → i + 3 < length row → sum ≡ so_far row i →
    sum + ((entry (get_or row i 0) + entry (get_or row (i + 1) 0)) + (entry (get_or row (i + 2) 0) + entry (get_or row (i + 3) 0))) ≡ so_far row (4 * (k + 1))
four_more sum row k i at lt is =
    let one = entry (get_or row i 0) in
    let two = entry (get_or row (i + 1) 0) in
    let three = entry (get_or row (i + 2) 0) in
    let first = sum_more sum row i (i + 1) (omega arith) (omega arith) is in
    let second = sum_more (sum + one) row (i + 1) (i + 2) (omega arith) (omega arith) first in
    let third = sum_more (sum + one + two) row (i + 2) (i + 3) (omega arith) (omega arith) second in
    let fourth = sum_more (sum + one + two + three) row (i + 3) (4 * (k + 1)) (omega arith) (omega arith) third in
    omega (arith, fourth)

-- with a piece more
piece_of : (row : List ℕ) (i n : ℕ) → so_far row (i + n) ≡ so_far row i + weight_of (take n (drop i row))
unfolding inverse_sum
piece_of row i n =
    let first : take i (take (i + n) row) ≡ take i row = take-take i (i + n) row (omega arith) in
    let second : drop i (take (i + n) row) ≡ take n (drop i row) = drop-take i n row in
    let inverses = rw (first, second) at (sum_by-take-drop (λ r. 2 ^ (33 - r)) (take (i + n) row) i) in
    let empty = rw (first, second) at (sum_by-take-drop one_where_empty (take (i + n) row) i) in
    omega (arith, inverses, empty)

pub piece_more : (row : List ℕ) (i : ℕ) → so_far row (i + 32) ≡ so_far row i + weight_of (chunk i 32 row)
piece_more row i = piece_of row i 32

-- a piece, as it is cut out
pub at_chunk : (row : List ℕ) (i : ℕ) → weight_of (take (i + 32 - i) (drop i row)) ≡ weight_of (chunk i 32 row)
at_chunk row i = let same : i + 32 - i ≡ 32 = omega arith in ap (λ n. weight_of (take n (drop i row))) same

-- a counter's registers can be read four at a time
pub fours : (row : List ℕ) (log2m : ℕ) → 4 ≤ log2m → length row ≡ 2 ^ log2m → length row % 4 ≡ 0
fours row log2m low width =
    let more = pow-add 2 4 (log2m - 4) in
    let same : 2 ^ log2m ≡ 2 ^ (4 + (log2m - 4)) = ap (λ n. 2 ^ n) (omega arith) in
    omega (arith, width, more, same)

-- and from 64 on 32 at a time
pub pieces : (row : List ℕ) (log2m : ℕ) → 5 < log2m → length row ≡ 2 ^ log2m → length row % 32 ≡ 0
pieces row log2m low width =
    let more = pow-add 2 5 (log2m - 5) in
    let same : 2 ^ log2m ≡ 2 ^ (5 + (log2m - 5)) = ap (λ n. 2 ^ n) (omega arith) in
    omega (arith, width, more, same)

-- there are at most 1024
pub short : (row : List ℕ) (log2m : ℕ) → log2m ≤ 10 → length row ≡ 2 ^ log2m → length row ≤ 1024
short row log2m high width =
    let few : 2 ^ log2m ≤ 2 ^ 10 = pow-le-pow_right {n = 2} (omega arith) {i = log2m} {j = 10} (omega arith) in
    omega (arith, few, width)
