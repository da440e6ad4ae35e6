-- What a call of a book makes of its history.
use Rattle.std.specs.Prelude.{◌≡◌, ◌⊎◌, ℕ, ◌<◌, ◌&&◌, nat_lt, Bool, true, false, Option, None, MatchOption, if◌then◌else◌}
use Rattle.std.specs.declared.cmp.Ordering.{Ordering}
use Rattle.ball_model.specs.contracts.names.BatchNameOrd.TheImpl as name_order
use Rattle.ball_model.specs.declared.history.Kept.{Kept}
use Rattle.ball_model.specs.declared.names.BatchName.{BatchName}
use Rattle.ball_model.specs.Join.{Holding}
use Rattle.ball_model.specs.Batches.{BatchValue, true_batch}
use Rattle.ball_model.specs.State.{State, StandsFor}
use Rattle.ball_model.specs.History.{HistoryEvent, Fetch, Recall, History, entry, entries_of, with_entry, Object, board_of, IsLegal, holding_in, is_new_keep}

-- the order of names: by superstep, then source, then target
abbrev pub by_name : BatchName → BatchName → Ordering
by_name = (name_order.ghosts).cmp

-- one entry more, if there is room for it
abbrev pub IsNoted : ℕ → ℕ → HistoryEvent → History → History → Type 0
IsNoted limit by e old new = (new ≡ with_entry old (entry by e)) × (entries_of old < limit)

-- a fetch of that name was noted, and this is the true batch of it
abbrev pub IsFetched : ℕ → ℕ → BatchName → History → History → BatchValue → Type 0
IsFetched limit by name old new batch =
    IsNoted limit by (Fetch name) old new × (batch ≡ true_batch old.job name)

-- a recall was noted, and this is a snapshot of the partition with the content that it names
abbrev pub IsRecalled : ℕ → ℕ → ℕ → ℕ → History → History → State → Type 0
IsRecalled limit by part least old new state =
    IsNoted limit by (Recall part least (holding_in state)) old new
    × StandsFor old.job part state.superstep state

-- the history after a call of this caller: it is legal, and the same or with one entry more
abbrev pub IsNext : ℕ → ℕ → History → History → Type 0
IsNext limit by old new = IsLegal new
    × ((new ≡ old) ⊎ ((e : HistoryEvent) × IsNoted limit by e old new))

-- the content that is displaced if another one is kept, and if it is not
abbrev pub displaced_by : Kept → Option Holding → Option Holding
displaced_by reply kept = if is_new_keep reply then kept else None

-- the name is on the board, and is of a superstep below s
abbrev pub is_dropped : Object → ℕ → BatchName → Bool
is_dropped o s name = o.stands name && nat_lt name.superstep s

-- these are the true batches of the names that were on the board and are of supersteps below s
abbrev pub AreDropped : {A : Type 0} → (A → BatchValue) → ℕ → History →
    (BatchName → Option A) → Type 0
AreDropped value s old find = (name : BatchName) →
    MatchOption (find name) (is_dropped (board_of old) s name ≡ false)
    (λ a. (is_dropped (board_of old) s name ≡ true) × (value a ≡ true_batch old.job name))
