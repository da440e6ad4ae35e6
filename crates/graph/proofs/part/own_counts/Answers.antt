use Rattle.std.proofs.Common.{◌≡◌, ◌∙◌, ap, arith}
use Rattle.ball_model.specs.Graph.{is_counted}
use Rattle.graph.proofs.OwnLemmas.{own-more, first-all}
use Rattle.graph.proofs.part.own_counts.Goals as goal

pub loop-i-init : goal.loop-i-init
loop-i-init c = record {
  items = c.in_ok-counted.ensures.items;
  len = omega (arith, c.in_ok-counted.ensures.len);
  room = omega (arith, c.in_ok-counted.ensures.capacity, c.part_size-size.ensures);
}

pub loop-i-preserved : goal.loop-i-preserved
loop-i-preserved c =
    let counts = is_counted c.args.graph.now.graph in
    record {
      items = own-more counts c.args.plan.now.parts c.args.p c.loop-i.i c.loop-i.counted.items c.push_reserved.new.self.items c.counted.result c.push_reserved.ensures.items c.loop-i.invariant.items (c.counted.ensures ∙ ap counts c.vertex_at.ensures.value);
      len = omega (arith, c.push_reserved.ensures.len, c.loop-i.invariant.len);
      room = omega (arith, c.push_reserved.ensures.capacity, c.loop-i.invariant.room);
    }

pub returns : goal.returns
returns c =
    let at : c.loop-i.i ≡ c.part_size-size.result = omega (arith, c.loop-i-test.false, c.loop-i.auto.i-end) in
    c.loop-i.invariant.items ∙ first-all (is_counted c.args.graph.now.graph) c.args.plan.now.vertices c.args.graph.now.graph.vertices c.args.plan.now.parts c.args.p c.loop-i.i c.requires.part (at ∙ c.part_size-size.ensures) c.requires.vertices
