use Rattle.std.proofs.Common.{◌≡◌, ◌∙◌, refl, ap, arith}
use Rattle.graph.proofs.OwnLemmas.{own-more, own-item, first-all}
use Rattle.graph.proofs.part.own_of.Goals as goal

pub loop-i-init : goal.loop-i-init
loop-i-init g c = record {
  items = λ f are. c.in_ok-own.ensures.items;
  len = omega (arith, c.in_ok-own.ensures.len);
  room = omega (arith, c.in_ok-own.ensures.capacity, c.part_size-size.ensures);
}

pub loop-i-preserved : goal.loop-i-preserved
loop-i-preserved g c = record {
  items = λ f are.
      let n = c.args.plan.now.vertices in
      let item = own-item f c.args.all.now n c.vertex_at.result c.index-all-vertex_at.result are c.vertex_at.ensures.below c.index-all-vertex_at.is in
      own-more f c.args.plan.now.parts c.args.p c.loop-i.i c.loop-i.own.items c.push_reserved.new.self.items c.index-all-vertex_at.result c.push_reserved.ensures.items (c.loop-i.invariant.items f are) (item ∙ ap f c.vertex_at.ensures.value);
  len = omega (arith, c.push_reserved.ensures.len, c.loop-i.invariant.len);
  room = omega (arith, c.push_reserved.ensures.capacity, c.loop-i.invariant.room);
}

pub returns : goal.returns
returns g c = λ f are.
    let at : c.loop-i.i ≡ c.part_size-size.result = omega (arith, c.loop-i-test.false, c.loop-i.auto.i-end) in
    c.loop-i.invariant.items f are ∙ first-all f c.args.plan.now.vertices c.args.plan.now.vertices c.args.plan.now.parts c.args.p c.loop-i.i c.requires.part (at ∙ c.part_size-size.ensures) refl
