use Rattle.std.proofs.Common.{◌≡◌, ◌∙◌, ap, arith}
use Rattle.ball_model.specs.PlanValue.{PlanValue, part_size}
use Rattle.ball_model.proofs.PartLemmas.{part_size-is}
use Rattle.base_tests.proofs.of_batches.refusals.is_pushed_to.Goals as goal

pub start-requires-clause-changed : goal.start-requires-clause-changed
start-requires-clause-changed c =
    let size : part_size c.in-Ok.plan.vertices c.in-Ok.plan.parts 0 ≡ 2 = ap (λ (p : PlanValue). part_size p.vertices p.parts 0) c.in-Ok.ensures ∙ part_size-is 3 2 0 (omega arith) in
    omega (arith, size)
