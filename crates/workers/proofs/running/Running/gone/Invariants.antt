use Rattle.std.proofs.Common.{◌≡◌, ◌<◌}
use Rattle.workers.specs.Marks.{HaveEnded}
use Rattle.workers.proofs.running.Running.gone.Given as goal

abbrev pub invariant-loop-replica : goal.invariant-loop-replica
invariant-loop-replica l = (l.look.table_id ≡ l.self.marked) × HaveEnded l.replica l.part l.look.me.0 × (l.part < l.self.parts)
