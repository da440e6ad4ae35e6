use Rattle.std.proofs.Common.{ap, arith, refl}
use Rattle.ball_model.specs.PlanValue.{PlanValue}
use Rattle.replica.proofs.LevelLemmas.Level.{plan_is}
use Rattle.ball_model.proofs.CheckLemmas.{on_err}
use Rattle.workers.proofs.PathLemmas.{come_nowhere, gone_nowhere}
use Rattle.workers.proofs.SuperstepLemmas.{no_other}
use Rattle.workers.proofs.worker.Worker.tell_all.Goals as goal

pub returns-then-parts-eq1-clause-told : goal.returns-then-parts-eq1-clause-told
returns-then-parts-eq1-clause-told g c = λ r lt other.
    let parts = ap (λ (a : PlanValue). a.parts) c.plan.ensures in
    let same = ap (λ (a : PlanValue). a.parts) (plan_is _ _ _ c.args.replica.now c.requires.stands) in
    absurd (no_other _ _ _ r c.args.replica.now c.requires.stands lt other (omega (arith, parts, same, c.parts.ensures.value, c.if-parts-eq1.true)))

pub returns-then-parts-eq1-clause-came : goal.returns-then-parts-eq1-clause-came
returns-then-parts-eq1-clause-came g c = come_nowhere _ _ _ _ refl

pub returns-in_err-changed-clause-gone : goal.returns-in_err-changed-clause-gone
returns-in_err-changed-clause-gone g c = on_err c.from_residual.result (gone_nowhere _ _ _ _ refl)
