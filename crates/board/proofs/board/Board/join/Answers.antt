use Rattle.std.proofs.Common.{◌≡◌, ℕ, Option, sym, ap, ◌∙◌, subst, arith}
use Rattle.atomic_table.specs.Table.{Me}
use Rattle.ball_model.specs.History.{History, Begins, calls_by}
use Rattle.board.specs.View.{View}
use Rattle.board.specs.Seats.{BoardView, SeatView}
use Rattle.board.proofs.SeatLemmas.{tells}
use Rattle.board.proofs.board.Board.join.Goals as goal

pub join_seat-requires : goal.join_seat-requires
join_seat-requires c =
    let board = sym (ap (λ (b : BoardView). b.table) c.self.view_is) in (
      ap (λ (v : SeatView). v.table) c.seat.view_is ∙ c.requires.board.0 ∙ board,
      ap (λ (v : SeatView). v.table) c.ended.view_is ∙ c.requires.ended.0 ∙ board,
      c.ended.invariant.holds,
      omega (arith, c.self.invariant.0),
      tells _ _ _ _ c.seat.invariant.idle c.ended.invariant.idle c.seat.invariant.live c.ended.invariant.live,
    )

pub returns-clause-both : goal.returns-clause-both
returns-clause-both c =
    let told = c.look_at_length.ensures.told (record { number = c.ended.inside.grant.pass.me.0.number; seen = c.ended.inside.grant.pass.me.0.seen }) (ap (λ (m : Me (Option History) View). m.0.told) c.join_seat.ensures.2) in
    subst (λ (v : SeatView). Begins v.caller.seen c.look_at_length.new.pass.me.0.seen) c.ended.view_is told.0

pub returns-clause-ended : goal.returns-clause-ended
returns-clause-ended c =
    let told = c.look_at_length.ensures.told (record { number = c.ended.inside.grant.pass.me.0.number; seen = c.ended.inside.grant.pass.me.0.seen }) (ap (λ (m : Me (Option History) View). m.0.told) c.join_seat.ensures.2) in
    subst (λ (v : SeatView). calls_by v.caller.number c.look_at_length.new.pass.me.0.seen ≡ calls_by v.caller.number v.caller.seen) c.ended.view_is
    (subst (λ (k : ℕ). calls_by k c.look_at_length.new.pass.me.0.seen ≡ calls_by k c.ended.inside.grant.pass.me.0.seen) (sym c.ended.invariant.number_is) told.1)
