use Rattle.std.proofs.Common.{◌≡◌, ◌<◌, length, get_or, arith}
use Rattle.replica.proofs.Names.{get_or-set_same, get_or-set_other}
use Rattle.replica.proofs.WaitingLemmas.{along-seen}
use Rattle.replica.proofs.waiting.mark_seen_along.Goals as goal

pub loop-edge-preserved : goal.loop-edge-preserved
loop-edge-preserved c =
    let k = c.loop-edge.edge-index in
    let e = get_or c.args.edges.now k (0, 0) in
    let inside : e.1 < length c.args.accumulated.now.rows = c.requires.to k (0, 0) c.loop-edge-test.true in
    let long : length c.loop-edge.touched ≡ length c.args.accumulated.now.rows = omega (arith, c.loop-edge.auto.touched, c.requires.marks) in
    λ i lt. grind (arith, get_or-set_same, along-seen, get_or-set_other)
