use Rattle.std.proofs.Common.{map}
use Rattle.world.specs.Shows.{AreFirstNodes}
use Rattle.ball_model.specs.Job.{job_of}
use Rattle.world.proofs.start.start_all.Given as goal

abbrev pub invariant-loop-p : goal.invariant-loop-p
invariant-loop-p l = AreFirstNodes (job_of l.graph.graph l.plan) l.p l.replicas (map (λ row. row.items) l.rows.items)
