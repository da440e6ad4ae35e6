-- What a caller of a board has seen of its history, and what a call makes of that.
use Rattle.std.specs.Prelude.{◌≡◌, ℕ, ◌<◌, ◌≤◌, true, [], ◌∷◌, ◌++◌}
use Rattle.ball_model.specs.History.{HistoryEvent, History, Begins, IsLegal, entry, entries_of, calls_by, with_entry, board_of, is_kept_from}

-- the number of a caller, how many entries the history may have, and the history that it has seen
pub record Caller : Type 0 where
  pub number : ℕ
  pub limit : ℕ
  pub seen : History

-- what every caller keeps: it has seen a legal history, which has no more entries than it may have
pub record IsCaller (v : Caller) : Type 0 where
  pub legal : IsLegal v.seen
  pub fits : entries_of v.seen ≤ v.limit

-- the caller has seen more, or as much: a legal history that what it had seen begins
pub record Extends (v w : Caller) : Type 0 where
  pub number : w.number ≡ v.number
  pub limit : w.limit ≡ v.limit
  pub begins : Begins v.seen w.seen
  pub legal : IsLegal w.seen
  pub fits : entries_of w.seen ≤ w.limit

-- the caller made this call and no other: it met a history that what it had seen begins, and the call's entry is the
-- one after it
pub record Called (v : Caller) (e : HistoryEvent) (w : Caller) : Type 0 where
  pub met : History
  pub begins : Begins v.seen met
  pub last : w.seen ≡ with_entry met (entry v.number e)
  pub own : calls_by v.number w.seen ≡ calls_by v.number v.seen ++ e ∷ []

-- the caller made no call
abbrev pub CalledNothing : Caller → Caller → Type 0
CalledNothing v w = calls_by v.number w.seen ≡ calls_by v.number v.seen

-- the history has as many entries as it may have
abbrev pub IsFull : Caller → Type 0
IsFull v = entries_of v.seen ≡ v.limit

-- the history may have another entry
abbrev pub HasRoom : Caller → Type 0
HasRoom v = entries_of v.seen < v.limit

-- superstep s is at least that of the content which the caller has seen kept for partition p, if there is one
abbrev pub IsAsFar : Caller → ℕ → ℕ → Type 0
IsAsFar v p s = (least : ℕ) → is_kept_from ((board_of v.seen).kept p) least ≡ true → least ≤ s
