use Rattle.std.proofs.Common.{◌≡◌, ◌*◌}
use Rattle.ball_model.specs.declared.plan.TheConstants.{MOST_REPLICAS}
use Rattle.workers.specs.Job.{HasSplit}
use Rattle.workers.proofs.JobLemmas.{StartingAll}
use Rattle.workers.proofs.nodes.Crew.start_all.Given as goal

abbrev pub invariant-loop-p : goal.invariant-loop-p
invariant-loop-p g l =
    let j = l.self.job in
    HasSplit l.self.board j (MOST_REPLICAS * l.p) l.first
    × StartingAll (λ h. h.promise) (λ own. own.items) j l.self.options l.p l.children.items
    × (l.parts ≡ l.initial.parts)
