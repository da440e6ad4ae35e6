use Rattle.std.proofs.Common.{lit<}
use Rattle.std.proofs.lemmas.Iterator.Consumers.{YieldsList-at, YieldsList-end, YieldsList-turn}
use Rattle.std.proofs.lemmas.Iterator.Splits.{YieldsList-from_str_split}
use Rattle.hyperball.proofs.OrderLemmas.{none-is-read, one-more, some-read}
use Rattle.hyperball.proofs.cli.orders.are_orders.Goals as goal

pub loop-piece-preserved : goal.loop-piece-preserved
loop-piece-preserved c = (tt, tt, one-more c.loop-piece.yielded c.in-Some.piece c.in-Some-order_in.field-0 c.loop-piece.invariant.2 c.in-Some-order_in.ensures)

pub returns-in_default-clause-no : goal.returns-in_default-clause-no
returns-in_default-clause-no c = λ os is are.
    let split = YieldsList-at c.into_iter-piece-iterator.ensures.into_iter_gives (YieldsList-from_str_split 44 c.args.text.now (lit< tt) c.split-piece-items.ensures.text c.split-piece-items.ensures.has_more c.split-piece-items.ensures.pattern) in
    let turn = YieldsList-turn split c.loop-piece.yielded _ c.loop-piece.yielded_by _ _ c.in-Some.piece c.in-Some.is c.next.ensures.steps in
    none-is-read c.args.text.now c.in-Some.piece.now _ turn.0 turn.1 c.in_default.ensures os are

pub returns-clause-yes : goal.returns-clause-yes
returns-clause-yes c = λ is.
    let split = YieldsList-at c.into_iter-piece-iterator.ensures.into_iter_gives (YieldsList-from_str_split 44 c.args.text.now (lit< tt) c.split-piece-items.ensures.text c.split-piece-items.ensures.has_more c.split-piece-items.ensures.pattern) in
    let end = YieldsList-end split c.loop-piece.yielded _ c.loop-piece.yielded_by _ _ c.in-None.is c.next.ensures.steps in
    some-read c.args.text.now c.loop-piece.yielded c.loop-piece.invariant.2 end.0
