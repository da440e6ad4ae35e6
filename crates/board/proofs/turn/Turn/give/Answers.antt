use Rattle.std.proofs.Common.{sym, subst}
use Rattle.ball_model.specs.Caller.{Called}
use Rattle.board.specs.Inside.{caller_of}
use Rattle.board.specs.declared.seat.Grant.{Grant}
use Rattle.board.proofs.CallLemmas.{turn_next, turn_fits, turn_caller, turn_called}
use Rattle.std.proofs.Common.{refl}
use Rattle.board.proofs.turn.Turn.give.Goals as goal

pub give_book-requires-clause-next : goal.give_book-requires-clause-next
give_book-requires-clause-next c = turn_next _ _ _ _ c.requires.turn c.requires.next

pub returns-clause-fits : goal.returns-clause-fits
returns-clause-fits c =
    let end : Grant = record { pass = c.give_book.new.pass; number = c.args.grant.now.number; room = c.args.grant.now.room } in
    turn_fits _ c.args.grant.now end _ _ c.requires.turn c.requires.next refl refl c.give_book.ensures.given

pub returns-clause-called : goal.returns-clause-called
returns-clause-called c e noted =
    let end : Grant = record { pass = c.give_book.new.pass; number = c.args.grant.now.number; room = c.args.grant.now.room } in
    subst (Called (caller_of c.args.self.was.value) e) (sym (turn_caller _ c.args.grant.now end _ _ c.requires.turn refl c.give_book.ensures.given)) (turn_called _ _ _ _ e c.requires.turn noted)
