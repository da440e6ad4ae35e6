use Rattle.std.proofs.Common.{◌+◌, ◌*◌, ◌<◌, ◌^◌, arith}
use Rattle.graph.proofs.FeedLemmas.{vertex-within}
use Rattle.graph.proofs.part.vertex_at.Goals as goal

pub overflow_mul-result : goal.overflow_mul-result
overflow_mul-result c =
    let below = vertex-within c.args.plan.now.vertices c.args.plan.now.parts c.args.p c.args.i c.requires.part c.requires.index in
    let few = c.parts.ensures.plan.vertices_to in
    let small : c.args.i * c.args.plan.now.parts < 2 ^ 32 = omega arith in
    rw (c.from.ensures, c.parts.ensures.value) (search (arith, small))

pub overflow_add-result : goal.overflow_add-result
overflow_add-result c =
    let below = vertex-within c.args.plan.now.vertices c.args.plan.now.parts c.args.p c.args.i c.requires.part c.requires.index in
    let few = c.parts.ensures.plan.vertices_to in
    let small : c.args.i * c.args.plan.now.parts + c.args.p < 2 ^ 32 = omega arith in
    rw (c.from.ensures, c.parts.ensures.value, c.from-2.ensures) (search (arith, small))

pub returns-clause-below : goal.returns-clause-below
returns-clause-below c =
    rw (c.from.ensures, c.parts.ensures.value, c.from-2.ensures) (vertex-within c.args.plan.now.vertices c.args.plan.now.parts c.args.p c.args.i c.requires.part c.requires.index)
