use Rattle.std.proofs.Common.{◌≡◌, ◌∙◌, length, ap, sym}
use Rattle.std.proofs.lemmas.Bool.{ne_eqb}
use Rattle.ball_model.specs.PlanValue.{PlanValue}
use Rattle.report.proofs.ReadyLemmas.{none_ready, first_whole, first_other}
use Rattle.report.proofs.ready.report_ready.Goals as goal

pub returns-in_default : goal.returns-in_default
returns-in_default c = sym (none_ready c.args.replicas.now (sym c.in_default.ensures.value))

pub returns-then-replicas-from : goal.returns-then-replicas-from
returns-then-replicas-from c =
    let v = c.in-Some.first.now in
    let parts : c.from.result ≡ v.part.plan.parts = c.from.ensures ∙ c.parts.ensures.value ∙ ap (λ (p : PlanValue). p.parts) c.plan.ensures in
    first_whole c.args.replicas.now v c.plan-then-replicas-from.result.now c.superstep.result c.all_ready.result (sym c.in-Some.ensures.value)
    c.plan-then-replicas-from.ensures c.superstep.ensures.value (c.if-replicas-from.true ∙ parts) c.all_ready.ensures

pub returns-else-replicas-from : goal.returns-else-replicas-from
returns-else-replicas-from c =
    let v = c.in-Some.first.now in
    let parts : c.from.result ≡ v.part.plan.parts = c.from.ensures ∙ c.parts.ensures.value ∙ ap (λ (p : PlanValue). p.parts) c.plan.ensures in
    ne_eqb (length c.args.replicas.now) c.from.result c.if-replicas-from.false
    ∙ first_other c.args.replicas.now v (sym c.in-Some.ensures.value) (λ e. c.if-replicas-from.false (e ∙ sym parts))
