use Rattle.std.proofs.Common.{ℕ, ◌+◌, ◌<◌, ◌≤◌, slice_index_or}
use Rattle.replica.proofs.saved.do_rise.Given as goal

abbrev pub invariant-loop-i : goal.invariant-loop-i
invariant-loop-i l = record { done : (k : ℕ) → k + 1 < l.i → slice_index_or l.sums k 0 ≤ slice_index_or l.sums (k + 1) 0 }
