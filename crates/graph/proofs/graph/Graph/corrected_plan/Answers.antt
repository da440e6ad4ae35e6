use Rattle.std.proofs.Common.{Ok, true, refl, arith}
use Rattle.ball_model.specs.PlanValue.{usual_vertices}
use Rattle.ball_model.specs.RunText.{Numbers}
use Rattle.graph.specs.Planning.{numbers_with}
use Rattle.graph.proofs.PlanLemmas.{plan-job, signed-plan}
use Rattle.graph.proofs.graph.Graph.corrected_plan.Goals as goal

pub returns-clause-value : goal.returns-clause-value
returns-clause-value c =
    let n : Numbers = numbers_with true c.args.log2m c.args.seed c.args.parts c.args.limit in
    rw c.signed.ensures (signed-plan usual_vertices n c.args.self.now.graph _ c.corrected.result.job c.in_ok-raw.raw c.corrected.result (rw c.vertices.ensures.count at c.in_ok-raw.ensures) (λ same. rw (c.corrected.ensures, same) refl))

pub returns-clause-job : goal.returns-clause-job
returns-clause-job c =
    let n : Numbers = numbers_with true c.args.log2m c.args.seed c.args.parts c.args.limit in
    plan-job usual_vertices (Ok c.signed.result) c.args.self.now.graph n (omega arith) c.vertices.ensures.graph (omega arith) (returns-clause-value c)
