-- The rule of the table, and what a seat knows after each step.
use Rattle.std.specs.Prelude.{◌≡◌, ◌≢◌, ◌⊎◌, ℕ, ◌+◌, ◌-◌, ◌/◌, ◌%◌, ◌^◌, ◌<◌, ◌≤◌, ◌==◌, min, Bool, true, false, List, [], ◌∷◌, length, Option, Some, None}
use mathlib.Core.Option.{some, none}
use lib.ListN.{get_elem?}
use Rattle.atomic_table.specs.Table.{State, Me, Step}
use Rattle.ball_model.specs.History.{History, Begins, IsLegal, entries_of, calls_by}
use Rattle.board.specs.View.{View, EndedSeat}
use Rattle.board.specs.declared.seat.TheConstants.{SHARE}

-- what f gives of all views together
abbrev pub total : (View → ℕ) → List View → ℕ
total f [] = 0
total f (v ∷ vs) = f v + total f vs

abbrev pub room_of : View → ℕ
room_of v = v.room

-- 1 if the seat has a ticket
abbrev pub tickets_of : View → ℕ
tickets_of v = min v.stage 1

abbrev pub first_view : History → ℕ → View
first_view log limit =
    record {
      number = 0;
      room = 2 ^ 63;
      seen = log;
      stage = 0;
      ticket = 0;
      told = None;
      limit = limit;
    }

-- k is the number of none of this seat's, nor of a seat that it may make
abbrev pub IsNotOf : ℕ → View → Type 0
IsNotOf k v = (k < v.number) ⊎ (v.number + v.room ≤ k)

-- what a seat knows fits the history
pub record FitsLog (limit : ℕ) (log : History) (next serving : ℕ) (v : View) : Type 0 where
  pub begins : 0 < v.room → Begins v.seen log
  pub limit_is : 0 < v.room → v.limit ≡ limit
  pub own : 0 < v.room → calls_by v.number log ≡ calls_by v.number v.seen
  pub unused : (k : ℕ) → v.number < k → k < v.number + v.room → calls_by k log ≡ []
  pub out : 0 < v.stage → (0 < v.room) × (serving ≤ v.ticket) × (v.ticket < next)
  pub turn : v.stage ≡ 2 → (v.ticket ≡ serving) × (v.seen ≡ log)
  pub told : (t : EndedSeat) → v.told ≡ Some t →
      Begins t.seen log × (calls_by t.number log ≡ calls_by t.number t.seen) × IsNotOf t.number v

-- two seats have no number in common, and no ticket; the number of the ended seat that one knows of is none of the
-- other's
pub record AreApart (v w : View) : Type 0 where
  pub numbers : (v.number + v.room ≤ w.number) ⊎ (w.number + w.room ≤ v.number)
  pub tickets : 0 < v.stage → 0 < w.stage → v.ticket ≢ w.ticket
  pub told : (t : EndedSeat) → v.told ≡ Some t → IsNotOf t.number w

-- the book is at home, or out with the seat whose turn it is
abbrev pub IsKeptSafe : History → State (Option History) View → Type 0
IsKeptSafe log s =
    ((s.homes ≡ some (Some log) ∷ [])
    × ((i : ℕ) (v : View) → get_elem? s.views i ≡ some v → v.stage ≢ 2))
    ⊎ ((s.homes ≡ none ∷ [])
    × ((i : ℕ) × (v : View) × (get_elem? s.views i ≡ some v) × (v.stage ≡ 2)))

-- a number for each seat that was ever made, in the order of their making: that of a seat which has not ended is its own
pub record AreNumbersOf (numbers : List ℕ) (views : List View) : Type 0 where
  pub one_each : length numbers ≡ length views
  pub own : (i : ℕ) (v : View) → get_elem? views i ≡ some v → 0 < v.room →
      get_elem? numbers i ≡ some v.number

-- the rule: there is one legal history, whose length is word 0; words 1 and 2 are the next ticket and the one that is
-- served, modulo 2^64, and the tickets between them are out; each seat knows what fits, and each two are apart; and a
-- number that is none of a seat's has no entry
pub record IsLocked (s : State (Option History) View) : Type 0 where
  pub log : History
  pub next : ℕ
  pub serving : ℕ
  pub words : s.words ≡ entries_of log ∷ next % 2 ^ 64 ∷ serving % 2 ^ 64 ∷ []
  pub legal : IsLegal log
  pub limit : ℕ
  pub fits : entries_of log ≤ limit
  pub out : serving + total tickets_of s.views ≡ next
  pub rooms : total room_of s.views ≤ 2 ^ 64
  pub home : IsKeptSafe log s
  pub each : (i : ℕ) (v : View) → get_elem? s.views i ≡ some v → FitsLog limit log next serving v
  pub apart : (i j : ℕ) (v w : View) → i ≢ j → get_elem? s.views i ≡ some v →
      get_elem? s.views j ≡ some w → AreApart v w
  pub numbers : List ℕ
  pub made : AreNumbersOf numbers s.views
  pub strangers : (k : ℕ) → ((i : ℕ) → get_elem? numbers i ≢ some k) → calls_by k log ≡ []

abbrev pub SeatHas : Type 0
SeatHas = Me (Option History) View

abbrev pub TableStep : Type 0
TableStep = Step (Option History)

abbrev pub with_ticket : View → ℕ → View
with_ticket v t =
    record {
      number = v.number;
      room = v.room;
      seen = v.seen;
      stage = 1;
      ticket = t;
      told = v.told;
      limit = v.limit;
    }

abbrev pub at_turn : View → History → View
at_turn v log =
    record {
      number = v.number;
      room = v.room;
      seen = log;
      stage = 2;
      ticket = v.ticket;
      told = v.told;
      limit = v.limit;
    }

abbrev pub after_turn : View → View
after_turn v = record {
  number = v.number;
  room = v.room;
  seen = v.seen;
  stage = 0;
  ticket = v.ticket;
  told = v.told;
  limit = v.limit;
}

-- the ticket drawn is the number found, but for turns round 2^64
abbrev pub DrewTicket : TableStep → SeatHas → ℕ → SeatHas → Type 0
DrewTicket st m found m' = (t : ℕ) × (t % 2 ^ 64 ≡ found) × (m' ≡ (with_ticket m.0 t, m.1))

-- the whole history begins with what was seen, and has no other calls of this seat, nor of one that it may make
abbrev pub GoesOn : View → History → Type 0
GoesOn v log =
    Begins v.seen log × (calls_by v.number log ≡ calls_by v.number v.seen) × IsLegal log
    × ((k : ℕ) → v.number < k → k < v.number + v.room → calls_by k log ≡ [])
    × (entries_of log ≤ v.limit)

-- it is the seat's turn, and it has the slot with the book; or it waits on
abbrev pub LookedIfServed : Bool → View → SeatHas → Type 0
LookedIfServed true v m' =
    (log : History) × GoesOn v log × (m' ≡ (at_turn v log, (0, Some log) ∷ []))
LookedIfServed false v m' = m' ≡ (v, [])

abbrev pub LookedAtServing : TableStep → SeatHas → ℕ → SeatHas → Type 0
LookedAtServing st m found m' = LookedIfServed (found == m.0.ticket % 2 ^ 64) m.0 m'

-- the seat has seen the book that it has
abbrev pub WroteLength : TableStep → SeatHas → ℕ → SeatHas → Type 0
WroteLength st m n m' = (log : History) → m.1 ≡ (0, Some log) ∷ [] → m' ≡ (at_turn m.0 log, m.1)

abbrev pub RaisedServing : TableStep → SeatHas → ℕ → SeatHas → Type 0
RaisedServing st m n m' = m' ≡ (after_turn m.0, [])

-- a look at the length shows the whole history, and what the seat knew of an ended one is part of it
abbrev pub at_look : View → History → View
at_look v log =
    record {
      number = v.number;
      room = v.room;
      seen = log;
      stage = 0;
      ticket = v.ticket;
      told = None;
      limit = v.limit;
    }

-- what the seat knows that an ended one had seen begins the history, in which that one has made no call since
abbrev pub HasNews : View → History → Type 0
HasNews v log = (t : EndedSeat) → v.told ≡ Some t →
    Begins t.seen log × (calls_by t.number log ≡ calls_by t.number t.seen)

abbrev pub LookedAtLength : TableStep → SeatHas → ℕ → SeatHas → Type 0
LookedAtLength st m found m' =
    (log : History) × GoesOn m.0 log × (entries_of log ≡ found)
    × HasNews m.0 log × (m' ≡ (at_look m.0 log, m.1))

-- how many numbers a new seat is given
abbrev pub share : ℕ → ℕ
share room = room / SHARE

abbrev pub keeper : View → View
keeper v =
    record {
      number = v.number;
      room = v.room - share v.room;
      seen = v.seen;
      stage = v.stage;
      ticket = v.ticket;
      told = v.told;
      limit = v.limit;
    }

abbrev pub newcomer : View → View
newcomer v =
    record {
      number = v.number + (v.room - share v.room);
      room = share v.room;
      seen = v.seen;
      stage = 0;
      ticket = 0;
      told = None;
      limit = v.limit;
    }

-- the seat gets to know what another has seen, which ends
abbrev pub with_news : View → View → View
with_news v w = record {
  number = v.number;
  room = v.room;
  seen = v.seen;
  stage = v.stage;
  ticket = v.ticket;
  told = Some (record { number = w.number; seen = w.seen });
  limit = v.limit;
}
