use Rattle.std.proofs.Common.{◌≡◌, ◌+◌, ◌*◌, ◌<◌, ◌∙◌, ap, arith}
use Rattle.ball_model.specs.PlanValue.{PlanValue}
use Rattle.replica.proofs.IndexLemmas.Own.{own_below}
use Rattle.checkpoint.proofs.write.vertex.Goals as goal

pub overflow_mul-result : goal.overflow_mul-result
overflow_mul-result c =
    let v = c.args.replica.now in
    let s = c.requires.state in
    let parts : c.from.result ≡ v.part.plan.parts = c.from.ensures ∙ c.parts.ensures.value ∙ ap (λ (p : PlanValue). p.parts) c.plan.ensures in
    let below : c.args.i * v.part.plan.parts + v.part.number < v.part.plan.vertices = own_below v.part.plan.vertices v.part.plan.parts v.part.number c.args.i s.part.number (omega (arith, c.requires.place, s.part.preds)) in
    rw parts (omega (arith, below, s.part.plan.vertices_to))

pub overflow_add-result : goal.overflow_add-result
overflow_add-result c =
    let v = c.args.replica.now in
    let s = c.requires.state in
    let parts : c.from.result ≡ v.part.plan.parts = c.from.ensures ∙ c.parts.ensures.value ∙ ap (λ (p : PlanValue). p.parts) c.plan.ensures in
    let number : c.from-2.result ≡ v.part.number = c.from-2.ensures ∙ c.partition.ensures in
    let below : c.args.i * v.part.plan.parts + v.part.number < v.part.plan.vertices = own_below v.part.plan.vertices v.part.plan.parts v.part.number c.args.i s.part.number (omega (arith, c.requires.place, s.part.preds)) in
    rw (parts, number) (omega (arith, below, s.part.plan.vertices_to))

pub returns-clause-below : goal.returns-clause-below
returns-clause-below c =
    let v = c.args.replica.now in
    let s = c.requires.state in
    let parts : c.from.result ≡ v.part.plan.parts = c.from.ensures ∙ c.parts.ensures.value ∙ ap (λ (p : PlanValue). p.parts) c.plan.ensures in
    let number : c.from-2.result ≡ v.part.number = c.from-2.ensures ∙ c.partition.ensures in
    rw (parts, number) (own_below v.part.plan.vertices v.part.plan.parts v.part.number c.args.i s.part.number (omega (arith, c.requires.place, s.part.preds)))
