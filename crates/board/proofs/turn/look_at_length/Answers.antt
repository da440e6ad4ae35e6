use Rattle.std.proofs.Common.{◌≡◌, Option, sym, ap, subst}
use Rattle.atomic_table.specs.Table.{Me}
use Rattle.ball_model.specs.History.{History, Begins, calls_by}
use Rattle.board.specs.View.{View}
use Rattle.std.proofs.Common.{arith}
use Rattle.board.proofs.SeatLemmas.{counts_at}
use Rattle.board.proofs.turn.look_at_length.Goals as goal

pub load-requires : goal.load-requires
load-requires c = (c.requires.table.1, omega (arith, c.requires.table.0.0), counts_at _ _ _ c.requires.idle.0 c.requires.idle.1 c.requires.idle.2)

pub returns-clause-told : goal.returns-clause-told
returns-clause-told c t e =
    let s = c.load.ensures.2 in
    let seen : c.load.new.seat.me.0.seen ≡ s.0 = ap (λ (m : Me (Option History) View). m.0.seen) s.4 in
    subst (λ (l : History). Begins t.seen l × (calls_by t.number l ≡ calls_by t.number t.seen)) (sym seen) (s.3 t e)
