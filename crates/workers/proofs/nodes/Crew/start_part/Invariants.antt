use Rattle.std.proofs.Common.{◌≡◌, ◌+◌, ◌*◌}
use Rattle.ball_model.specs.declared.plan.TheConstants.{MOST_REPLICAS}
use Rattle.workers.specs.Job.{HasSplit}
use Rattle.workers.proofs.JobLemmas.{Starting}
use Rattle.workers.proofs.nodes.Crew.start_part.Given as goal

abbrev pub invariant-loop-replica : goal.invariant-loop-replica
invariant-loop-replica g l =
    let j = l.self.job in
    HasSplit l.self.board j (MOST_REPLICAS * l.p + l.replica) l.first
    × Starting (λ h. h.promise) j l.self.options l.p l.replica l.children.items
    × (l.part ≡ l.initial.part)
