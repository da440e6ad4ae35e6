use Rattle.std.proofs.Common.{◌≡◌, ◌/◌, ◌^◌, ◌+◌, ◌-◌, ◌≤◌, length, slice_index}
use Rattle.std.specs.List.{sum_by, range_with_len}
use Rattle.figures.proofs.totals.gain.Given as goal

-- what is left of the greatest number, halved at each superstep, is room enough for all rises that follow
abbrev pub invariant-loop-i : goal.invariant-loop-i
invariant-loop-i l = record {
  sum : l.sum ≡ sum_by (λ i. (slice_index l.totals i - slice_index l.totals (i - 1)) / 2 ^ i) (range_with_len 1 (l.i - 1));
  place : l.i - 1 ≤ length l.totals - 1;
  room : l.sum + (2 ^ 128 - 1) / 2 ^ (l.i - 1) ≤ 2 ^ 128 - 1;
}
