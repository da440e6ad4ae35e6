-- A book's fields as a history, and what they keep.
use Rattle.std.specs.Prelude.{◌≡◌, ℕ, ◌+◌, ◌^◌, ◌<◌, ◌&&◌, if◌then◌else◌, cond, Bool, true, false}
use Rattle.std.specs.Prelude.{List, ◌++◌, map, length, vec_len, vec_capacity, slice_index_or, slice_set}
use Rattle.std.specs.Prelude.{Option, None, Some, MatchOption, IfSome, option_map}
use Rattle.std.specs.List.{flat_map}
use Rattle.std.specs.Arc.{arc_value}
use Rattle.std.specs.BTreeMap.{get}
use Rattle.ball_model.specs.declared.history.Kept.{Kept}
use Rattle.ball_model.specs.declared.history.Kept.TheVariants as replies
use Rattle.ball_model.specs.declared.history.Posted.{Posted}
use Rattle.ball_model.specs.declared.history.Posted.TheVariants as posted
use Rattle.ball_model.specs.declared.names.BatchName.{BatchName}
use Rattle.ball_model.specs.Job.{Job, job_of}
use Rattle.ball_model.specs.Join.{Holding}
use Rattle.ball_model.specs.Batches.{BatchValue, true_batch}
use Rattle.ball_model.specs.State.{State, StandsFor}
use Rattle.ball_model.specs.History.{HistoryEvent, Post, Fetch, Keep, Recall, Drop, Entry, History, entry, entries_of, Object, board_of, IsLegal, holding_in, is_further, is_new_keep, is_new_post, same_name}
use Rattle.board.specs.Noted.{by_name}
use Rattle.board.specs.declared.event.HistoryEvent.{HistoryEvent as Noted}
use Rattle.board.specs.declared.event.HistoryEvent.TheVariants as noted
use Rattle.board.specs.declared.event.Entry.{Entry as Line}
use Rattle.board.specs.declared.calls.Calls.{Calls}
use Rattle.board.specs.declared.book.Book.TheInside.{Inside}

-- a noted event
abbrev pub event_of : Noted → HistoryEvent
event_of (noted.Post name r) = Post name r
event_of (noted.Fetch name) = Fetch name
event_of (noted.Keep s r) = Keep (holding_in s.value) r
event_of (noted.Recall p least s) = Recall p least (holding_in s.value)
event_of (noted.DropBelow s) = Drop s

abbrev pub entry_of : Line → Entry
entry_of e = entry e.by (event_of e.event)

-- the calls on the full sheets, and on the sheet that is written on
abbrev pub calls_in : Calls → List Entry
calls_in c = map entry_of (flat_map (λ v. v.items) c.full.items ++ c.sheet.items)

-- there is room for one call more
abbrev pub HasPlace : Calls → Type 0
HasPlace c = (vec_len c.sheet < vec_capacity c.sheet) × (c.entries + 1 < 2 ^ 32)

abbrev pub history_of : Inside → History
history_of b =
    record {
      job = job_of b.graph.value.graph b.plan.value;
      calls = calls_in b.calls;
    }

-- the map has the names on the board, each with its true batch
abbrev pub HasStanding : {A : Type 0} → (A → BatchValue) → Job → Object → (BatchName → Option A) →
    Type 0
HasStanding value j o find = (name : BatchName) →
    MatchOption (find name) (o.stands name ≡ false)
    (λ a. (o.stands name ≡ true) × (value a ≡ true_batch j name))

-- the content of the snapshot in the place of partition p
abbrev pub held_at : {C : Type 0} → (C → State) → List (Option C) → ℕ → Option Holding
held_at state kept p = option_map (λ c. holding_in (state c)) (slice_index_or kept p None)

-- what is kept for each partition is the content of the snapshot in its place
abbrev pub HasContents : {C : Type 0} → (C → State) → Object → List (Option C) → Type 0
HasContents state o kept = (p : ℕ) → held_at state kept p ≡ o.kept p

-- each snapshot stands for the partition of its place
abbrev pub HasSnapshots : {C : Type 0} → (C → State) → Job → List (Option C) → Type 0
HasSnapshots state j kept =
    (p : ℕ) → IfSome (slice_index_or kept p None) (λ c. StandsFor j p (state c).superstep (state c))

-- what a book of this history has
pub record BookHas {A C : Type 0} (value : A → BatchValue) (state : C → State) (h : History)
    (entries floor : ℕ) (find : BatchName → Option A) (kept : List (Option C)) : Type 0 where
  pub legal : IsLegal h
  pub entries_are : entries ≡ entries_of h
  pub floor_is : floor ≡ (board_of h).floor
  pub standing : HasStanding value h.job (board_of h) find
  pub places : length kept ≡ h.job.plan.parts
  pub contents : HasContents state (board_of h) kept
  pub snapshots : HasSnapshots state h.job kept

abbrev pub IsBook : Inside → Type 0
IsBook b =
    BookHas arc_value arc_value (history_of b) b.calls.entries b.floor (get by_name b.standing)
    b.kept.items

-- the reply to a post: whether its name is below the floor, and whether it is on the board
abbrev pub reply_to : Bool → Bool → Posted
reply_to is_old is_known =
    if is_old then posted.Old else (if is_known then posted.Known else posted.New)

-- if the reply is New, the batch is at its name; all else is as before
abbrev pub IsPut : {A : Type 0} → Posted → BatchName → A → (BatchName → Option A) →
    (BatchName → Option A) → Type 0
IsPut reply name batch old new = (n : BatchName) →
    new n ≡ cond (is_new_post reply && same_name n name) (Some batch) (old n)

-- the reply to a snapshot: whether it is further than the one that is kept
abbrev pub reply_in : {C : Type 0} → (C → State) → List (Option C) → C → Kept
reply_in state kept c =
    if is_further (held_at state kept (state c).part.number) (holding_in (state c))
    then replies.New else replies.Behind

-- what is kept after that reply
abbrev pub kept_after : {C : Type 0} → (C → State) → Kept → List (Option C) → C → List (Option C)
kept_after state reply kept c =
    if is_new_keep reply then slice_set kept (state c).part.number (Some c) else kept
