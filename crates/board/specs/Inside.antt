-- What the fields of a seat and of a board are.
use Rattle.std.specs.Prelude.{◌≡◌, ℕ, ◌+◌, ◌^◌, ◌<◌, ◌≤◌, [], ◌∷◌, Option, None}
use Rattle.atomic_table.specs.Table.{Me}
use Rattle.board.specs.View.{View}
use Rattle.board.specs.declared.board.Board.TheInside as board
use Rattle.board.specs.declared.seat.Seat.TheInside as seat
use Rattle.board.specs.declared.seat.Grant.{Grant}
use Rattle.ball_model.specs.History.{History, IsLegal, entries_of, calls_by}
use Rattle.ball_model.specs.Caller.{Caller}
use Rattle.board.specs.Rule.{GoesOn}
use Rattle.board.specs.Turn.{IsSameSeat, IsSized}
use Rattle.board.specs.Seats.{BoardView, SeatView}

abbrev pub board_view : board.Inside → BoardView
board_view b = record { table = b.table.shared.table_id; limit = b.limit }

abbrev pub IsBoard : board.Inside → Type 0
IsBoard b = IsSized b.table.shared.table_id

-- who calls by what was granted
abbrev pub caller_of : Grant → Caller
caller_of g =
    record { number = g.number; limit = g.pass.me.0.limit; seen = g.pass.me.0.seen }

abbrev pub seat_view : seat.Inside → SeatView
seat_view s = record {
  table = s.grant.pass.table_id;
  room = s.grant.room;
  caller = caller_of s.grant;
}

-- the seat's fields fit what it knows, and it has no ticket
pub record SeatFits (number room : ℕ) (m : Me (Option History) View) : Type 0 where
  pub number_is : number ≡ m.0.number
  pub room_is : room ≡ m.0.room
  pub live : 0 < m.0.room
  pub bound : m.0.number + m.0.room ≤ 2 ^ 63
  pub idle : m.0.stage ≡ 0
  pub told : m.0.told ≡ None
  pub holds : m.1 ≡ []
  pub legal : IsLegal m.0.seen
  pub fits : entries_of m.0.seen ≤ m.0.limit
  pub unused : (k : ℕ) → m.0.number < k → k < m.0.number + m.0.room → calls_by k m.0.seen ≡ []

abbrev pub GrantFits : Grant → Type 0
GrantFits g = SeatFits g.number g.room g.pass.me

abbrev pub IsSeat : seat.Inside → Type 0
IsSeat s = GrantFits s.grant

-- a call's turn, from the taking of the book to its giving back: what the grant was, what it is, and the book that was
-- found
pub record IsTurn (was now : Grant) (found : History) : Type 0 where
  pub fits : GrantFits was
  pub number : now.number ≡ was.number
  pub room : now.room ≡ was.room
  pub table : now.pass.table_id ≡ was.pass.table_id
  pub view : IsSameSeat was.pass.me.0 now.pass.me.0
  pub turn : (now.pass.me.0.stage ≡ 2) × (now.pass.me.1 ≡ (0, None) ∷ [])
  pub seen : found ≡ now.pass.me.0.seen
  pub goes_on : GoesOn was.pass.me.0 found
