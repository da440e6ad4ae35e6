use Rattle.std.proofs.Common.{◌∙◌, refl, ap, sym, subst}
use Rattle.std.specs.Prelude.{IsOk}
use Rattle.std.proofs.lemmas.Result.{err_from_is_err_and}
use Rattle.ball_model.specs.PlanValue.{PlanValue}
use Rattle.batches.specs.Reading.{batch_at}
use Rattle.batches.proofs.CheckLemmas.{ok_is}
use Rattle.checkpoint.proofs.LawLemmas.{agree}
use Rattle.checkpoint.proofs.saved.decode.Goals as goal

pub returns-in_ok-shared-in-Ok-clause-right : goal.returns-in_ok-shared-in-Ok-clause-right
returns-in_ok-shared-in-Ok-clause-right c = λ b of_plan is. c.in_ok-shared-in-Ok.ensures ∙ ok_is c.in-Ok.batch b (c.in-Ok.ensures.only b of_plan.batch (agree c.plan.result.now b.plan (of_plan.plan_is ∙ sym c.plan.ensures)) is)

pub returns-in-Err-clause-right : goal.returns-in-Err-clause-right
returns-in-Err-clause-right c = λ b of_plan is. c.refusal.ensures.memory b (c.in-Err.ensures.only b of_plan.batch (agree c.plan.result.now b.plan (of_plan.plan_is ∙ sym c.plan.ensures)) is)

pub returns-in_err-shared-in-Ok-clause-right : goal.returns-in_err-shared-in-Ok-clause-right
returns-in_err-shared-in-Ok-clause-right c = λ b of_plan is.
    let p = err_from_is_err_and c.from_residual.result c.from_residual.ensures.1 in
    rw (p.1, p.2) refl

pub returns-in_err-shared-in-Ok-clause-wanting : goal.returns-in_err-shared-in-Ok-clause-wanting
returns-in_err-shared-in-Ok-clause-wanting c =
    let p = err_from_is_err_and c.from_residual.result c.from_residual.ensures.1 in
    rw (p.1, p.2) (λ _. subst (λ r. IsOk r) (c.in-Ok.ensures.exact ∙ ap (λ (q : PlanValue). batch_at q c.args.bytes.now) c.plan.ensures) refl)
