use Rattle.replica.proofs.WaitingLemmas.{more_added, none_added}
use Rattle.replica.proofs.waiting.add_edges.Goals as goal

pub loop-place-init : goal.loop-place-init
loop-place-init c = none_added c.args.rows.now c.args.edges.now.i c.args.waiting.now.items c.args.accumulated.now c.args.touched.now c.requires.can c.requires.few

pub loop-place-preserved : goal.loop-place-preserved
loop-place-preserved c =
    more_added c.args.rows.now c.args.edges.now.i c.args.edges.now.places.now c.loop-place.place-index 0 c.args.waiting.now.items c.loop-place.waiting.items c.add_edge.new.waiting.items
    c.args.accumulated.now c.loop-place.accumulated c.add_edge.new.accumulated c.args.touched.now c.loop-place.touched c.add_edge.new.touched
    c.loop-place-test.true c.loop-place.invariant c.add_edge.ensures
