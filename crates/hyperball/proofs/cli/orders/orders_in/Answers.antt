use Rattle.std.proofs.Common.{lit<}
use Rattle.std.proofs.lemmas.Iterator.Consumers.{YieldsList-at, YieldsList-end, YieldsList-turn}
use Rattle.std.proofs.lemmas.Iterator.Splits.{YieldsList-from_str_split}
use Rattle.hyperball.proofs.OrderLemmas.{all-read, none-is-read, spelled-once}
use Rattle.hyperball.proofs.cli.orders.orders_in.Goals as goal

pub returns-in_default-clause-read : goal.returns-in_default-clause-read
returns-in_default-clause-read c = λ os are.
    let split = YieldsList-at c.into_iter-piece-iterator.ensures.into_iter_gives (YieldsList-from_str_split 44 c.args.text.now (lit< tt) c.split-piece-items.ensures.text c.split-piece-items.ensures.has_more c.split-piece-items.ensures.pattern) in
    let turn = YieldsList-turn split c.loop-piece.yielded _ c.loop-piece.yielded_by _ _ c.in-Some.piece c.in-Some.is c.next.ensures.steps in
    absurd (none-is-read c.args.text.now c.in-Some.piece.now _ turn.0 turn.1 c.in_default.ensures os are)

pub returns-clause-ok : goal.returns-clause-ok
returns-clause-ok c =
    let split = YieldsList-at c.into_iter-piece-iterator.ensures.into_iter_gives (YieldsList-from_str_split 44 c.args.text.now (lit< tt) c.split-piece-items.ensures.text c.split-piece-items.ensures.has_more c.split-piece-items.ensures.pattern) in
    let end = YieldsList-end split c.loop-piece.yielded _ c.loop-piece.yielded_by _ _ c.in-None.is c.next.ensures.steps in
    all-read c.args.text.now c.loop-piece.yielded c.loop-piece.orders.items c.loop-piece.invariant.2 end.0

pub returns-clause-read : goal.returns-clause-read
returns-clause-read c = λ os are.
    let split = YieldsList-at c.into_iter-piece-iterator.ensures.into_iter_gives (YieldsList-from_str_split 44 c.args.text.now (lit< tt) c.split-piece-items.ensures.text c.split-piece-items.ensures.has_more c.split-piece-items.ensures.pattern) in
    let end = YieldsList-end split c.loop-piece.yielded _ c.loop-piece.yielded_by _ _ c.in-None.is c.next.ensures.steps in
    spelled-once c.args.text.now c.loop-piece.orders.items os (all-read c.args.text.now c.loop-piece.yielded c.loop-piece.orders.items c.loop-piece.invariant.2 end.0) are
