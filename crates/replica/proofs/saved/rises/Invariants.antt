use Rattle.std.proofs.Common.{ℕ, ◌<◌, ◌≤◌, slice_index_or}
use Rattle.replica.proofs.saved.rises.Given as goal

abbrev pub invariant-loop-k : goal.invariant-loop-k
invariant-loop-k l = record {
  done : (i : ℕ) → i < l.k → (slice_index_or l.row i 0 ≤ slice_index_or l.accumulated i 0) × (slice_index_or l.accumulated i 0 ≤ 33);
}
