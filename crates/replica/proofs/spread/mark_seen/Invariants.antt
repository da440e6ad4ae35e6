use Rattle.std.proofs.Common.{◌≡◌, ℕ, ◌<◌, length}
use Rattle.replica.specs.Spread.{rows_after, touched_at}
use Rattle.replica.proofs.spread.mark_seen.Given as goal

abbrev pub invariant-loop-place : goal.invariant-loop-place
invariant-loop-place l = (i : ℕ) → i < length l.accumulated.rows →
    touched_at l.touched l.accumulated.rows (rows_after l.places l.registers l.accumulated.rows) i ≡ touched_at l.initial.touched l.accumulated.rows (rows_after l.places l.registers l.accumulated.rows) i
