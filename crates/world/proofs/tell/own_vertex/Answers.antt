use Rattle.std.proofs.Common.{◌∙◌, ◌*◌, ap, refl, arith}
use Rattle.ball_model.specs.PlanValue.{PlanValue}
use Rattle.world.proofs.TellLemmas.{vertex-below, vertex-fits}
use Rattle.world.proofs.tell.own_vertex.Goals as goal

pub overflow_mul-result : goal.overflow_mul-result
overflow_mul-result c =
    let parts = c.from-parts.ensures ∙ c.parts.ensures.value ∙ ap (λ (l : PlanValue). l.parts) c.plan.ensures in
    let below = vertex-below c.args.replica.now c.from-parts.result c.args.replica.now.part.number c.args.replica.now.part.number _ c.args.i c.args.replica.now.part.plan c.limits.ensures.state parts refl refl refl refl c.requires in
    let fits = (vertex-fits c.args.replica.now (c.args.i * c.from-parts.result) c.args.replica.now.part.number c.limits.ensures.state below).0 in
    omega (arith, fits)

pub overflow_add-result : goal.overflow_add-result
overflow_add-result c =
    let parts = c.from-parts.ensures ∙ c.parts.ensures.value ∙ ap (λ (l : PlanValue). l.parts) c.plan.ensures in
    let below = vertex-below c.args.replica.now c.from-parts.result c.from.result c.args.replica.now.part.number _ c.args.i c.args.replica.now.part.plan c.limits.ensures.state parts (c.from.ensures ∙ c.partition.ensures) refl refl refl c.requires in
    let fits = (vertex-fits c.args.replica.now (c.args.i * c.from-parts.result) c.from.result c.limits.ensures.state below).1 in
    omega (arith, fits)

pub returns-clause-vertex : goal.returns-clause-vertex
returns-clause-vertex c =
    let parts = c.from-parts.ensures ∙ c.parts.ensures.value ∙ ap (λ (l : PlanValue). l.parts) c.plan.ensures in
    vertex-below c.args.replica.now c.from-parts.result c.from.result c.args.replica.now.part.number _ c.args.i c.args.replica.now.part.plan c.limits.ensures.state parts (c.from.ensures ∙ c.partition.ensures) refl refl refl c.requires
