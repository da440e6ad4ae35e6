use Rattle.std.proofs.Common.{◌≡◌, is_some, sym, subst}
use Rattle.ball_model.specs.History.{History, board_of}
use Rattle.board.proofs.CallLemmas.{fetch_stands, if_ok}
use Rattle.board.proofs.board.Board.fetch.Goals as goal

pub returns-clause-stands : goal.returns-clause-stands
returns-clause-stands g c =
    let answer = c.fetch-answer.ensures in
    if_ok c.fetch-answer.result _ _ _ answer.found answer.none (λ r some none. subst (λ (l : History). is_some r ≡ (board_of l).stands c.args.name) (sym c.give.ensures.book) (fetch_stands _ r _ _ _ _ c.args.name answer.next.0 some none))
