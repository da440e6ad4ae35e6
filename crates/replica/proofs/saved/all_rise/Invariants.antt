use Rattle.std.proofs.Common.{ℕ, ◌<◌, [], slice_index_or}
use Rattle.replica.specs.Kept.{RowRises}
use Rattle.replica.proofs.saved.all_rise.Given as goal

abbrev pub invariant-loop-i : goal.invariant-loop-i
invariant-loop-i l = record { done : (k : ℕ) → k < l.i → RowRises l.plan.log2m (slice_index_or l.rows.rows k []) (slice_index_or l.accumulated.rows k []) }
