use Rattle.std.proofs.Common.{◌≡◌, ◌≤◌, sym, ap, ◌∙◌, arith}
use Rattle.board.specs.Seats.{BoardView, SeatView}
use Rattle.board.specs.declared.seat.TheConstants.{SHARE}
use Rattle.board.proofs.SeatLemmas.{shares}
use Rattle.board.proofs.seat.Seat.split.Goals as goal

pub split_seat-pass-requires : goal.split_seat-pass-requires
split_seat-pass-requires c =
    let room : c.self.inside.grant.room ≡ c.args.self.now.room = ap (λ (v : SeatView). v.room) c.self.view_is in
    let enough : SHARE ≤ c.self.inside.grant.pass.me.0.room = omega (arith, c.requires.room, room, c.self.invariant.room_is) in (
      ap (λ (v : SeatView). v.table) c.self.view_is ∙ c.requires.board.0 ∙ sym (ap (λ (b : BoardView). b.table) c.board.view_is),
      omega (arith, c.board.invariant.0),
      shares _ _ c.self.invariant.idle enough,
    )
