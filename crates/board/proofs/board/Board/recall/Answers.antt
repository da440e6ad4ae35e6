use Rattle.std.proofs.Common.{◌≡◌, true, is_some, sym, subst}
use Rattle.std.specs.Arc.{arc_value}
use Rattle.std.proofs.lemmas.Result.{IfOk-weaker}
use Rattle.std.proofs.lemmas.Option.{IfSome_then}
use Rattle.ball_model.specs.History.{History, Begins, IsLegal, holding_in, is_kept_from, board_of}
use Rattle.board.specs.Seats.{SeatView}
use Rattle.board.proofs.CallLemmas.{recall_far, recall_furthest, if_ok}
use Rattle.board.proofs.board.Board.recall.Goals as goal

pub returns-clause-far : goal.returns-clause-far
returns-clause-far g c =
    let answer = c.recall-answer.ensures in
    if_ok c.recall-answer.result _ _ _ answer.found answer.none (λ r some none. subst (λ (l : History). is_some r ≡ is_kept_from ((board_of l).kept c.args.part) c.args.at_least) (sym c.give.ensures.book) (recall_far _ (λ a. holding_in (arc_value a)) r _ _ _ _ c.args.part c.args.at_least answer.next.0 some none))

pub returns-clause-furthest : goal.returns-clause-furthest
returns-clause-furthest g c =
    let answer = c.recall-answer.ensures in
    let t = c.take-turn.ensures.turn.goes_on in
    let book : History = c.take-turn.result.book in
    let longer : Begins c.seat.inside.grant.pass.me.0.seen book = subst (Begins c.seat.inside.grant.pass.me.0.seen) (sym c.take-turn.ensures.book) t.0 in
    let legal : IsLegal book = subst IsLegal (sym c.take-turn.ensures.book) t.2 in
    IfOk-weaker c.recall-answer.result _ _ (λ r h. IfSome_then r h (λ a k least kept. recall_furthest _ _ c.seat.inside.grant.pass.me.0.seen book _ c.args.part c.args.at_least least (holding_in (arc_value a)) longer legal answer.next.0 k.0 (subst (λ (v : SeatView). is_kept_from ((board_of v.caller.seen).kept c.args.part) least ≡ true) (sym c.seat.view_is) kept))) answer.found
