use Rattle.std.proofs.Common.{◌∙◌, sym, subst}
use Rattle.world.specs.Shows.{Shows}
use Rattle.world.specs.Tell.{Tells}
use Rattle.world.proofs.RunLemmas.{not_want}
use Rattle.world.proofs.TellLemmas.{other-text, shown-leaves, shown-text}
use Rattle.world.proofs.replay.WatchedReplay.tell_event.Goals as goal

pub returns-then-is_shown-clause-told : goal.returns-then-is_shown-clause-told
returns-then-is_shown-clause-told g c = λ j w shows.
    let e = c.args.event in
    let r = c.apply-outcome.result in
    let want = not_want r (sym c.is_want.ensures ∙ c.if-is_want.false) in
    let shown = sym c.is_shown.ensures ∙ c.if-is_shown.true in
    let is = c.apply-outcome.ensures.answer j w shows want in
    let after = subst (λ v. Shows j v c.apply-outcome.new.self) (shown-leaves j w e r is shown) (c.apply-outcome.ensures.shows j w shows want) in
    subst (λ l. Tells g.W.Write.contents g.W.CountedWrite.failed_calls c.args.writer.now c.tell_node.new.writer l c.tell_node.result) (shown-text j w e r c.node_of.result is shown c.node_of.ensures) (c.tell_node.ensures j w after)

pub returns-clause-told : goal.returns-clause-told
returns-clause-told g c = λ j w shows.
    let e = c.args.event in
    let r = c.apply-outcome.result in
    let want = not_want r (sym c.is_want.ensures ∙ c.if-is_want.false) in
    let is = c.apply-outcome.ensures.answer j w shows want in
    subst (λ l. Tells g.W.Write.contents g.W.CountedWrite.failed_calls c.args.writer.now c.tell_outcome.new.writer l c.tell_outcome.result) (other-text j w e r is) (c.tell_outcome.ensures j w e (sym c.is_shown.ensures ∙ c.if-is_shown.false))
