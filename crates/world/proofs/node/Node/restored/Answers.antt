use Rattle.std.proofs.Common.{ℕ, Vec, Global, ◌∙◌, ap, sym, subst}
use Rattle.std.specs.Prelude.{Option, IfOk, option_map}
use Rattle.ball_model.specs.declared.world.Answer.TheVariants as answer
use Rattle.world.specs.Shows.{SeenNode}
use Rattle.world.specs.Turns.{Turns, restarted_turn}
use Rattle.world.proofs.NodeLemmas.{node}
use Rattle.world.proofs.KeepLemmas.{if_back}
use Rattle.world.proofs.node.Node.restored.Goals as goal

pub returns-in-Some-clause-turned : goal.returns-in-Some-clause-turned
returns-in-Some-clause-turned c = λ j.
    let v = c.self.inside.replica in
    let bytes = c.in-Some.bytes.items in
    subst (λ (s : SeenNode). IfOk c.read_back.result (λ r. Turns j (restarted_turn j) (answer.Restarted r.superstep) s (record s { replica = r })))
    (ap (λ (o : Option (Vec ℕ Global)). node v (option_map (λ (b : Vec ℕ Global). b.items) o)) (sym c.in-Some.is) ∙ c.self.view_is)
    (if_back c.read_back.result j v bytes (λ u keeps part spells. c.read_back.ensures.back u keeps (part ∙ sym c.self.invariant.part_is ∙ sym c.in_ok-part.ensures) (c.deref.ensures.value ∙ spells)))
