use Rattle.std.proofs.Common.{◌≢◌, take}
use Rattle.replica.proofs.Names.{IsTrue}
use Rattle.replica.specs.Pull.{raised_over, rows_at}
use Rattle.replica.proofs.pull.is_seen_raised.Given as goal

abbrev pub invariant-loop-place : goal.invariant-loop-place
invariant-loop-place l = IsTrue l.seen → raised_over l.row (rows_at l.rows.rows (take l.place-index l.places)) ≢ l.row
