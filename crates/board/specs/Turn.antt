-- What a call of the board needs between its steps.
use Rattle.std.specs.Prelude.{◌≡◌, ◌≢◌, ℕ, ◌<◌, ◌≤◌, []}
use Rattle.atomic_table.specs.Seated.{TableId}
use Rattle.ball_model.specs.History.{History, Begins, IsLegal, entries_of, calls_by}
use Rattle.board.specs.Rule.{SeatHas}
use Rattle.board.specs.View.{View}

-- three words and one slot
abbrev pub IsSized : TableId → Type 0
IsSized z = (z.words ≡ 3) × (z.slots ≡ 1)

-- a seat is at the table, which has three words and one slot
abbrev pub IsAtTable : TableId → TableId → Type 0
IsAtTable seat table = IsSized table × (seat ≡ table)

-- the seat has no ticket and no slot, and has not ended
abbrev pub IsIdle : SeatHas → Type 0
IsIdle m = (m.0.stage ≡ 0) × (0 < m.0.room) × (m.1 ≡ [])

-- the seat's number, those that it may give, what it knows of an ended seat and its limit are as they were
abbrev pub IsSameSeat : View → View → Type 0
IsSameSeat v w =
    (w.number ≡ v.number) × (w.room ≡ v.room) × (w.told ≡ v.told) × (w.limit ≡ v.limit)

-- the history begins with what was seen, and only calls of this seat follow
pub record GoesOnBySeat (v : View) (book : History) : Type 0 where
  pub legal : IsLegal book
  pub longer : Begins v.seen book
  pub fits : entries_of book ≤ v.limit
  pub others : (k : ℕ) → k ≢ v.number → calls_by k book ≡ calls_by k v.seen
