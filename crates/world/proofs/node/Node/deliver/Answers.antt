use Rattle.std.proofs.Common.{subst}
use Rattle.std.specs.Arc.{arc_value}
use Rattle.world.specs.Shows.{SeenNode}
use Rattle.world.specs.Turns.{Turns, taken_turn}
use Rattle.world.specs.contracts.node.Node.{the_view}
use Rattle.world.proofs.NodeLemmas.{node, take_turns}
use Rattle.world.proofs.node.Node.deliver.Goals as goal

pub returns : goal.returns
returns c = λ j is named.
    let v = c.self.inside.replica in
    let w = c.take-taken.new.self in
    let kept = (the_view c.self.inside).kept in
    let name = (arc_value c.args.batch).name in
    subst (λ (s : SeenNode). Turns j (taken_turn j name) c.answer_to_take.result s (node w kept)) c.self.view_is
    (take_turns j name c.take-taken.result c.answer_to_take.result v w kept (λ p. c.take-taken.ensures.step j p is) c.limits.ensures.state c.answer_to_take.ensures)
