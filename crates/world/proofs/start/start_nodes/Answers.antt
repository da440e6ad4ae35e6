use Rattle.std.proofs.Common.{◌+◌, List, ◌∙◌, sym, subst}
use Rattle.world.specs.Shows.{SeenNode, AreStart}
use Rattle.world.proofs.StartLemmas.{node_more}
use Rattle.world.proofs.start.start_nodes.Goals as goal

pub loop-preserved : goal.loop-preserved
loop-preserved c = λ j p job below is.
    subst (λ (ns : List SeenNode). AreStart j p (c.loop.counter + 1) ns) (sym c.in_ok-push.ensures.items)
    (node_more j p c.loop.counter c.loop.nodes.items c.in_ok-node.node (c.loop.invariant j p job below is)
    (c.in_ok-node.ensures j p job below (c.in_ok-own.ensures ∙ c.in_ok-shared.ensures.ok ∙ is)))
