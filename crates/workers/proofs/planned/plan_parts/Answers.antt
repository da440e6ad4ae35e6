use Rattle.ball_model.specs.Job.{job_of}
use Rattle.workers.proofs.planned.plan_parts.Goals as goal

pub returns-clause-parts : goal.returns-clause-parts
returns-clause-parts g c =
    rw c.with_job.ensures (c.in_ok-parts-2.ensures (job_of c.args.graph.now.graph c.args.bare.now) (rw c.in_ok-parts.was at c.join-parts.ensures.second))
