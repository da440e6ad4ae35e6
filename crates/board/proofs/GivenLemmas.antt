-- What a seat has after its turn, from what its grant has.
use Rattle.std.proofs.Common.{◌≡◌, ap, ◌∙◌, subst}
use Rattle.ball_model.specs.Caller.{Extends}
use Rattle.board.specs.Inside.{caller_of}
use Rattle.board.specs.Seats.{SeatView, KeepsItsNumbers}
use Rattle.board.specs.declared.seat.Grant.{Grant}

-- what contracts see of a grant
abbrev pub granted : Grant → SeatView
granted g = record { table = g.pass.table_id; room = g.room; caller = caller_of g }

pub given_numbers : (v : SeatView) (inside was end : Grant) → granted inside ≡ v → was ≡ inside → KeepsItsNumbers (granted was) (granted end) → KeepsItsNumbers v (granted end)
given_numbers v inside was end view same p = subst (λ (x : SeatView). KeepsItsNumbers x (granted end)) (ap granted same ∙ view) p

pub given_seen : (v : SeatView) (inside was end : Grant) → granted inside ≡ v → was ≡ inside → Extends (caller_of was) (caller_of end) → Extends v.caller (caller_of end)
given_seen v inside was end view same p = subst (λ (x : SeatView). Extends x.caller (caller_of end)) (ap granted same ∙ view) p

pub ruleset given = (given_numbers, given_seen)
