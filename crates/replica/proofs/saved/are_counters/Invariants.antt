use Rattle.std.proofs.Common.{ℕ, ◌<◌, [], slice_index_or}
use Rattle.ball_model.specs.Laws.{IsCounterRow}
use Rattle.replica.proofs.saved.are_counters.Given as goal

abbrev pub invariant-loop-i : goal.invariant-loop-i
invariant-loop-i l = record { done : (k : ℕ) → k < l.i → IsCounterRow l.plan.log2m (slice_index_or l.rows.rows k []) }
