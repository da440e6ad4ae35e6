use Rattle.std.proofs.Common.{◌≡◌, ◌∙◌, ap, subst}
use Rattle.ball_model.specs.Held.{held_after, held_take_answer}
use Rattle.ball_model.specs.Steps.{Take}
use Rattle.ball_model.specs.World.{taken_answer}
use Rattle.ball_model.specs.PlanValue.{PlanValue}
use Rattle.ball_model.specs.State.{State}
use Rattle.node.specs.Turns.{IsBrought, TurnsTo}
use Rattle.node.proofs.SessionLemmas.{job_held, plan_held}
use Rattle.std.specs.Prelude.{IfOk, IsOk, is_ok}
use Rattle.batches.specs.Reading.{batch_at}
use Rattle.node.specs.Refusals.{SaysOfBatch}
use Rattle.node.proofs.SessionLemmas.{no_other_said, says_no_batch, spelled_same}
use Rattle.std.specs.Arc.{arc_value}
use Rattle.ball_model.specs.Batches.{BatchValue}
use Rattle.ball_model.specs.Content.{is_new}
use Rattle.replica.specs.Change.{take_answer}
use Rattle.node.specs.declared.session.Reply.TheVariants as reply
use Rattle.std.proofs.lemmas.Result.{IfOk-from_err, on_err_weaker}
use Rattle.node.proofs.session.Session.deliver.Goals as goal

pub returns-in-Ok-clause-turned : goal.returns-in-Ok-clause-turned
returns-in-Ok-clause-turned c = λ j p h name k d.
    let plan : c.plan.result.now ≡ j.plan = c.plan.ensures ∙ ap (λ (s : State). s.part.plan) c.self.view_is ∙ plan_held j p h c.args.self.now k in
    c.take.ensures.turned j p h name k d.named (c.in-Ok.ensures.given j name (job_held j p h c.args.self.now k) plan d)

pub returns-in-Err-clause-turned : goal.returns-in-Err-clause-turned
returns-in-Err-clause-turned c = λ j p h name k d.
    let plan : c.plan.result.now ≡ j.plan = c.plan.ensures ∙ ap (λ (s : State). s.part.plan) c.self.view_is ∙ plan_held j p h c.args.self.now k in
    IfOk-from_err c.no_batch.result (TurnsTo j p (taken_answer (held_take_answer j h name)) (held_after j h (Take name)) c.args.self.now)
    (c.no_batch.ensures.memory (c.in-Err.ensures.memory j name (job_held j p h c.args.self.now k) plan d))

pub returns-in-Ok-clause-named : goal.returns-in-Ok-clause-named
returns-in-Ok-clause-named c =
    let plan : c.plan.result.now ≡ c.args.self.now.part.plan = c.plan.ensures ∙ ap (λ (s : State). s.part.plan) c.self.view_is in
    subst (λ (q : PlanValue). IsOk (batch_at q c.args.bytes.now)) plan (ap is_ok c.in-Ok.ensures.spells)

pub returns-in-Err-clause-named : goal.returns-in-Err-clause-named
returns-in-Err-clause-named c =
    let plan : c.plan.result.now ≡ c.args.self.now.part.plan = c.plan.ensures ∙ ap (λ (s : State). s.part.plan) c.self.view_is in
    subst (λ (q : PlanValue). IfOk c.no_batch.result (SaysOfBatch q c.args.bytes.now)) plan
    (says_no_batch c.plan.result.now c.args.bytes.now c.in-Err.error c.no_batch.result c.no_batch.ensures.some c.no_batch.ensures.other c.in-Err.ensures.named)

pub returns-in-Ok-clause-answer : goal.returns-in-Ok-clause-answer
returns-in-Ok-clause-answer c = λ b is.
    let plan : c.plan.result.now ≡ c.args.self.now.part.plan = c.plan.ensures ∙ ap (λ (s : State). s.part.plan) c.self.view_is in
    let same : arc_value c.in-Ok.batch ≡ b =
    spelled_same b (arc_value c.in-Ok.batch) (batch_at c.plan.result.now c.args.bytes.now) c.in-Ok.ensures.spells (ap (λ (q : PlanValue). batch_at q c.args.bytes.now) plan ∙ is) in
    ap reply.Answered (c.take.ensures.answer ∙ ap (λ (x : BatchValue). taken_answer (take_answer c.args.self.now x)) same)

pub returns-in-Ok-clause-unchanged : goal.returns-in-Ok-clause-unchanged
returns-in-Ok-clause-unchanged c = λ b is old.
    let plan : c.plan.result.now ≡ c.args.self.now.part.plan = c.plan.ensures ∙ ap (λ (s : State). s.part.plan) c.self.view_is in
    let same : arc_value c.in-Ok.batch ≡ b =
    spelled_same b (arc_value c.in-Ok.batch) (batch_at c.plan.result.now c.args.bytes.now) c.in-Ok.ensures.spells (ap (λ (q : PlanValue). batch_at q c.args.bytes.now) plan ∙ is) in
    c.take.ensures.unchanged (ap (λ (x : BatchValue). is_new (take_answer c.args.self.now x)) same ∙ old)

pub returns-in-Err-clause-answer : goal.returns-in-Err-clause-answer
returns-in-Err-clause-answer c = λ b is.
    let plan : c.plan.result.now ≡ c.args.self.now.part.plan = c.plan.ensures ∙ ap (λ (s : State). s.part.plan) c.self.view_is in
    no_other_said b c.in-Err.error (batch_at c.plan.result.now c.args.bytes.now) c.no_batch.result _ c.no_batch.ensures.other c.in-Err.ensures.named
    (ap (λ (q : PlanValue). batch_at q c.args.bytes.now) plan ∙ is)

pub returns-in-Ok-clause-brought : goal.returns-in-Ok-clause-brought
returns-in-Ok-clause-brought c = λ b is.
    let plan : c.plan.result.now ≡ c.args.self.now.part.plan = c.plan.ensures ∙ ap (λ (s : State). s.part.plan) c.self.view_is in
    let same : arc_value c.in-Ok.batch ≡ b =
    spelled_same b (arc_value c.in-Ok.batch) (batch_at c.plan.result.now c.args.bytes.now) c.in-Ok.ensures.spells (ap (λ (q : PlanValue). batch_at q c.args.bytes.now) plan ∙ is) in
    subst (λ (x : BatchValue). IsBrought x c.args.self.now c.take.new.self) same c.take.ensures.brought

pub returns-in-Err-clause-brought : goal.returns-in-Err-clause-brought
returns-in-Err-clause-brought c = λ b is.
    let plan : c.plan.result.now ≡ c.args.self.now.part.plan = c.plan.ensures ∙ ap (λ (s : State). s.part.plan) c.self.view_is in
    no_other_said b c.in-Err.error (batch_at c.plan.result.now c.args.bytes.now) c.no_batch.result _ c.no_batch.ensures.other c.in-Err.ensures.named
    (ap (λ (q : PlanValue). batch_at q c.args.bytes.now) plan ∙ is)

pub returns-in-Err-clause-spelled : goal.returns-in-Err-clause-spelled
returns-in-Err-clause-spelled c =
    let plan : c.plan.result.now ≡ c.args.self.now.part.plan = c.plan.ensures ∙ ap (λ (s : State). s.part.plan) c.self.view_is in
    on_err_weaker c.no_batch.result (λ wants. subst (λ (q : PlanValue). IsOk (batch_at q c.args.bytes.now)) plan (c.in-Err.ensures.last wants)) c.no_batch.ensures.only
