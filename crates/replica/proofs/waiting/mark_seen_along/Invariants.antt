use Rattle.std.proofs.Common.{◌≡◌, ℕ, ◌<◌, length}
use Rattle.replica.specs.Spread.{touched_at}
use Rattle.replica.specs.Waiting.{rows_along}
use Rattle.replica.proofs.waiting.mark_seen_along.Given as goal

abbrev pub invariant-loop-edge : goal.invariant-loop-edge
invariant-loop-edge l = (i : ℕ) → i < length l.accumulated.rows →
    touched_at l.touched l.accumulated.rows (rows_along l.rows.rows l.edges l.accumulated.rows) i ≡ touched_at l.initial.touched l.accumulated.rows (rows_along l.rows.rows l.edges l.accumulated.rows) i
