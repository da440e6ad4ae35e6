use Rattle.std.proofs.Common.{Ok, arith}
use Rattle.ball_model.specs.PlanValue.{usual_vertices}
use Rattle.ball_model.specs.RunText.{Numbers}
use Rattle.graph.specs.Planning.{numbers_of}
use Rattle.graph.proofs.PlanLemmas.{plan-job, signed-plan}
use Rattle.graph.proofs.graph.Graph.plan.Goals as goal

pub returns-clause-value : goal.returns-clause-value
returns-clause-value c =
    let n : Numbers = numbers_of c.args.log2m c.args.seed c.args.parts c.args.limit in
    rw c.signed.ensures (signed-plan usual_vertices n c.args.self.now.graph _ _ c.in_ok-plan.plan c.in_ok-plan.plan (rw c.vertices.ensures.count at c.in_ok-plan.ensures) (λ same. same))

pub returns-clause-job : goal.returns-clause-job
returns-clause-job c =
    let n : Numbers = numbers_of c.args.log2m c.args.seed c.args.parts c.args.limit in
    plan-job usual_vertices (Ok c.signed.result) c.args.self.now.graph n (omega arith) c.vertices.ensures.graph (omega arith) (returns-clause-value c)
