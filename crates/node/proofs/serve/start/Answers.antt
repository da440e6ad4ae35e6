use Rattle.std.proofs.Common.{arith}
use Rattle.ball_model.specs.Job.{job_of}
use Rattle.node.proofs.SessionLemmas.{begun}
use Rattle.node.proofs.serve.start.Goals as goal

pub returns-clause-start : goal.returns-clause-start
returns-clause-start c =
    let below = c.if-parts-part.false in
    begun (job_of c.args.graph.now.graph c.args.plan.now) c.args.part c.in_ok-start.field-0 (omega (arith, c.parts.ensures.value, below))
    (c.in_ok-start.ensures.start (job_of c.args.graph.now.graph c.args.plan.now) c.args.part c.requires (omega (arith, c.parts.ensures.value, below)) c.in_ok-part.ensures)
