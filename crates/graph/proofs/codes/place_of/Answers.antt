use Rattle.std.proofs.Common.{◌+◌, ◌-◌, ◌/◌, arith}
use Rattle.std.specs.Prelude.{reverse}
use Rattle.std.proofs.lemmas.List.{length-reverse}
use Rattle.graph.specs.Edges.{edge_of}
use Rattle.graph.proofs.CodesLemmas.{place-above, place-below}
use Rattle.graph.proofs.EdgeLemmas.{below-length}
use Rattle.graph.proofs.codes.place_of.Goals as goal

pub loop-low-init : goal.loop-low-init
loop-low-init c =
    let es = reverse c.args.edges.now in
    record {
      order = omega arith;
      before = omega (arith, below-length es c.args.target, length-reverse c.args.edges.now);
      after = omega arith;
      inside = omega arith;
    }

pub loop-low-preserved-then-edges-mid : goal.loop-low-preserved-then-edges-mid
loop-low-preserved-then-edges-mid c =
    let inv = c.loop-low.invariant in
    let mid = c.loop-low.low + (c.loop-low.high - c.loop-low.low) / 2 in
    record {
      order = omega (arith, c.loop-low-test.true);
      before = place-above c.args.edges.now c.args.target mid (edge_of 0 0) c.requires (omega (arith, c.loop-low-test.true, inv.inside)) c.if-edges-mid.true;
      after = inv.after;
      inside = inv.inside;
    }

pub loop-low-preserved : goal.loop-low-preserved
loop-low-preserved c =
    let inv = c.loop-low.invariant in
    let mid = c.loop-low.low + (c.loop-low.high - c.loop-low.low) / 2 in
    record {
      order = omega arith;
      before = inv.before;
      after = place-below c.args.edges.now c.args.target mid (edge_of 0 0) c.requires (omega (arith, c.loop-low-test.true, inv.inside)) (omega (arith, c.if-edges-mid.false));
      inside = omega (arith, c.loop-low-test.true, inv.inside);
    }
