-- What contracts see of a board and of a seat.
use Rattle.std.specs.Prelude.{◌≡◌, ℕ}
use Rattle.atomic_table.specs.Seated.{TableId}
use Rattle.ball_model.specs.Caller.{Caller}

-- which table a board has, and how many entries its history may have
pub record BoardView : Type 0 where
  pub table : TableId
  pub limit : ℕ

-- which table a seat is at; how many numbers it may still give, its own among them; and who calls by it
pub record SeatView : Type 0 where
  pub table : TableId
  pub room : ℕ
  pub caller : Caller

-- the seat is one of the board
abbrev pub IsAt : BoardView → SeatView → Type 0
IsAt b v = (v.table ≡ b.table) × (v.caller.limit ≡ b.limit)

-- the seat is at its table, and has as many numbers to give
abbrev pub KeepsItsNumbers : SeatView → SeatView → Type 0
KeepsItsNumbers v w = (w.table ≡ v.table) × (w.room ≡ v.room)

-- a seat that gave numbers away is else as it was
abbrev pub SharesNumbers : SeatView → SeatView → Type 0
SharesNumbers v w = (w.table ≡ v.table) × (w.caller ≡ v.caller)
