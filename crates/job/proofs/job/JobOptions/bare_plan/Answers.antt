use Rattle.std.proofs.Common.{Bool, false, true, Ok, ◌≤◌, refl, arith}
use Rattle.ball_model.specs.PlanValue.{most_vertices}
use Rattle.ball_model.specs.RunText.{run_limits}
use Rattle.job.specs.Job.{numbers_asked}
use Rattle.graph.specs.Planning.{signed}
use Rattle.graph.proofs.PlanLemmas.{plan-job, signed-plan}
use Rattle.job.proofs.job.JobOptions.bare_plan.Goals as goal

few : (large : Bool) → (run_limits large).vertices ≤ most_vertices
few false = omega arith
few true = omega arith

pub returns-in-Raw-clause-ok : goal.returns-in-Raw-clause-ok
returns-in-Raw-clause-ok c =
    signed-plan (run_limits c.args.self.now.large).vertices (numbers_asked c.args.self.now) c.args.graph.now.graph _ c.in_ok-raw.raw.job c.in_ok-raw.raw c.in_ok-raw.raw
    (rw c.vertices.ensures.count at c.in_ok-raw.ensures.value) (λ same. rw (same, c.in-Raw.is) refl)

pub returns-in-Raw-clause-job : goal.returns-in-Raw-clause-job
returns-in-Raw-clause-job c =
    let g = c.args.graph.now.graph in
    plan-job (run_limits c.args.self.now.large).vertices (Ok (signed g c.in_ok-raw.raw)) g (numbers_asked c.args.self.now) (few c.args.self.now.large)
    c.vertices.ensures.graph c.raw_plan.ensures.seed (returns-in-Raw-clause-ok c)

pub returns-in-Corrected-clause-ok : goal.returns-in-Corrected-clause-ok
returns-in-Corrected-clause-ok c =
    signed-plan (run_limits c.args.self.now.large).vertices (numbers_asked c.args.self.now) c.args.graph.now.graph _ c.corrected.result.job c.in_ok-raw.raw c.corrected.result
    (rw c.vertices.ensures.count at c.in_ok-raw.ensures.value) (λ same. rw (c.corrected.ensures, same, c.in-Corrected.is) refl)

pub returns-in-Corrected-clause-job : goal.returns-in-Corrected-clause-job
returns-in-Corrected-clause-job c =
    let g = c.args.graph.now.graph in
    plan-job (run_limits c.args.self.now.large).vertices (Ok (signed g c.corrected.result)) g (numbers_asked c.args.self.now) (few c.args.self.now.large)
    c.vertices.ensures.graph c.raw_plan.ensures.seed (returns-in-Corrected-clause-ok c)
