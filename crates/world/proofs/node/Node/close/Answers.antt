use Rattle.std.proofs.Common.{subst}
use Rattle.world.specs.Shows.{SeenNode}
use Rattle.world.specs.Turns.{Turns, closed_turn}
use Rattle.world.specs.contracts.node.Node.{the_view}
use Rattle.world.proofs.NodeLemmas.{node, close_turns}
use Rattle.world.proofs.node.Node.close.Goals as goal

pub returns : goal.returns
returns c = λ j.
    let v = c.self.inside.replica in
    let w = c.close-closed.new.self in
    let kept = (the_view c.self.inside).kept in
    subst (λ (s : SeenNode). Turns j (closed_turn j) c.answer_to_close.result s (node w kept)) c.self.view_is
    (close_turns j c.close-closed.result c.answer_to_close.result v w kept c.close-closed.ensures.step c.limits.ensures.state c.answer_to_close.ensures)
