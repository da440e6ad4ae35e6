-- Legal histories of a board: calls of many callers in one order, each answered as a board of one caller answers it
-- (linearizability: Herlihy and Wing 1990).
use Rattle.std.specs.Prelude.{◌≡◌, ℕ, ◌+◌, ◌≤◌, Bool, true, false, not, ◌==◌, ◌&&◌, ◌||◌, nat_lt, nat_le, max, List, [], ◌∷◌, ◌++◌, length, Option, None, Some, if◌then◌else◌}
use Rattle.std.specs.List.{AllByRecursion}
use mathlib.Core.List.{IsPrefix}
use Rattle.ball_model.specs.declared.names.BatchName.{BatchName}
use Rattle.ball_model.specs.declared.history.Posted.{Posted}
use Rattle.ball_model.specs.declared.history.Posted.TheVariants as posted
use Rattle.ball_model.specs.declared.history.Kept.{Kept}
use Rattle.ball_model.specs.declared.history.Kept.TheVariants as kept
use Rattle.ball_model.specs.Job.{Job}
use Rattle.ball_model.specs.Join.{Holding, holding_of}
use Rattle.ball_model.specs.State.{State, content_of}

-- a call that changes or finds something, with its reply: a batch of that name is posted; it is found; a content is
-- kept; the content kept for a partition is found, and its superstep is at least that; names below a superstep go
pub data HistoryEvent : Type 0 where
  Post : BatchName → Posted → HistoryEvent
  Fetch : BatchName → HistoryEvent
  Keep : Holding → Kept → HistoryEvent
  Recall : ℕ → ℕ → Holding → HistoryEvent
  Drop : ℕ → HistoryEvent

-- an event, and the number of its caller
pub record Entry : Type 0 where
  pub by : ℕ
  pub event : HistoryEvent

abbrev pub entry : ℕ → HistoryEvent → Entry
entry n e = record { by = n; event = e }

-- a history: its first entry, the opening, names the job; the others are calls, one after the other
pub record History : Type 0 where
  pub job : Job
  pub calls : List Entry

-- the history that has the opening alone
abbrev pub start_history : Job → History
start_history job = record { job = job; calls = [] }

-- how many entries a history has, the opening among them
abbrev pub entries_of : History → ℕ
entries_of h = 1 + length h.calls

-- the history with one entry more
abbrev pub with_entry : History → Entry → History
with_entry h e = record { job = h.job; calls = h.calls ++ e ∷ [] }

-- the one history is a beginning of the other
pub record Begins (h k : History) : Type 0 where
  pub job : k.job ≡ h.job
  pub calls : IsPrefix h.calls k.calls

-- the events of one caller, one after the other
abbrev pub events_by : ℕ → List Entry → List HistoryEvent
events_by n [] = []
events_by n (e ∷ es) = if e.by == n then e.event ∷ events_by n es else events_by n es

-- what a caller with that number did
abbrev pub calls_by : ℕ → History → List HistoryEvent
calls_by n h = events_by n h.calls

-- two names are the same
abbrev pub same_name : BatchName → BatchName → Bool
same_name a b = (a.superstep == b.superstep) && (a.source == b.source) && (a.target == b.target)

-- a board of one caller: its floor, whether the batch of a name is on it, and the content kept for a partition
pub record Object : Type 0 where
  pub floor : ℕ
  pub stands : BatchName → Bool
  pub kept : ℕ → Option Holding

-- at the start no batch is on it, and nothing is kept
abbrev pub empty : Object
empty = record { floor = 0; stands = λ _. false; kept = λ _. None }

-- the reply to a post
abbrev pub post_reply : Object → BatchName → Posted
post_reply o name =
    if nat_lt name.superstep o.floor then posted.Old
    else (if o.stands name then posted.Known else posted.New)

-- nothing is kept, or what is kept is of a lesser superstep
abbrev pub is_further : Option Holding → Holding → Bool
is_further None c = true
is_further (Some old) c = nat_lt old.superstep c.superstep

-- the reply to a content that is to be kept
abbrev pub keep_reply : Object → Holding → Kept
keep_reply o c = if is_further (o.kept c.partition) c then kept.New else kept.Behind

-- a content is kept, of at least that superstep
abbrev pub is_kept_from : Option Holding → ℕ → Bool
is_kept_from None s = false
is_kept_from (Some c) s = nat_le s c.superstep

abbrev pub is_new_post : Posted → Bool
is_new_post posted.Old = false
is_new_post posted.Known = false
is_new_post posted.New = true

abbrev pub is_new_keep : Kept → Bool
is_new_keep kept.New = true
is_new_keep kept.Behind = false

-- the board after an event
abbrev pub after : Object → HistoryEvent → Object
after o (Post name r) = record {
  floor = o.floor;
  stands = λ n. (is_new_post r && same_name n name) || o.stands n;
  kept = o.kept;
}
after o (Fetch name) = o
after o (Keep c r) = record {
  floor = o.floor;
  stands = o.stands;
  kept = λ p. if is_new_keep r && (p == c.partition) then Some c else o.kept p;
}
after o (Recall p s c) = o
after o (Drop s) = record {
  floor = max o.floor s;
  stands = λ n. o.stands n && not (nat_lt n.superstep s);
  kept = o.kept;
}

-- the board after these entries
abbrev pub after_all : Object → List Entry → Object
after_all o [] = o
after_all o (e ∷ es) = after_all (after o e.event) es

-- the board after a history
abbrev pub board_of : History → Object
board_of h = after_all empty h.calls

-- the reply is the one that the board gives
abbrev pub IsAnswer : Object → HistoryEvent → Type 0
IsAnswer o (Post name r) = r ≡ post_reply o name
IsAnswer o (Fetch name) = o.stands name ≡ true
IsAnswer o (Keep c r) = r ≡ keep_reply o c
IsAnswer o (Recall p s c) = (o.kept p ≡ Some c) × (s ≤ c.superstep)
IsAnswer o (Drop s) = Unit {0}

-- each reply is the one that the board gives after the entries before it
abbrev pub AreAnswers : Object → List Entry → Type 0
AreAnswers o [] = Unit {0}
AreAnswers o (e ∷ es) = IsAnswer o e.event × AreAnswers (after o e.event) es

-- a history is legal if each reply is the one that the board gives
abbrev pub IsLegal : History → Type 0
IsLegal h = AreAnswers empty h.calls

-- the content of a replica or of a snapshot, as plain data
abbrev pub holding_in : State → Holding
holding_in v = holding_of v.part.plan v.part.number (content_of v)

-- ---- laws, in the subject's own words. Each is the contract of a function of src/history.rt

-- the events do not drop names of that superstep
abbrev pub SparesName : BatchName → HistoryEvent → Type 0
SparesName name (Drop s) = s ≤ name.superstep
SparesName name (Post n r) = Unit {0}
SparesName name (Fetch n) = Unit {0}
SparesName name (Keep c r) = Unit {0}
SparesName name (Recall p s c) = Unit {0}

-- the name was posted, that post was answered New, and no later event dropped it
pub record IsPosted (name : BatchName) (h : History) : Type 0 where
  pub before : List Entry
  pub by : ℕ
  pub later : List Entry
  pub calls : h.calls ≡ before ++ entry by (Post name posted.New) ∷ later
  pub spared : AllByRecursion (λ e. SparesName name e.event) later

-- a name that is on the board was posted and not dropped since
abbrev pub StandingIsPosted : Type 0
StandingIsPosted = (h : History) (name : BatchName) → (board_of h).stands name ≡ true →
    IsPosted name h

-- and a name that was posted and not dropped since is on the board
abbrev pub PostedStands : Type 0
PostedStands = (h : History) (name : BatchName) → IsPosted name h → (board_of h).stands name ≡ true

-- what is kept for a partition never goes back
abbrev pub KeptNeverGoesBack : Type 0
KeptNeverGoesBack = (h k : History) (p s : ℕ) → IsLegal k → Begins h k →
    is_kept_from ((board_of h).kept p) s ≡ true → is_kept_from ((board_of k).kept p) s ≡ true

-- the floor never goes down
abbrev pub FloorNeverGoesDown : Type 0
FloorNeverGoesDown = (h k : History) → Begins h k → (board_of h).floor ≤ (board_of k).floor

-- no name below the floor is on the board
abbrev pub NothingBelowFloor : Type 0
NothingBelowFloor = (h : History) (name : BatchName) → IsLegal h → (board_of h).stands name ≡ true →
    (board_of h).floor ≤ name.superstep

-- a beginning of a legal history is legal
abbrev pub BeginningIsLegal : Type 0
BeginningIsLegal = (h k : History) → Begins h k → IsLegal k → IsLegal h

-- the last reply of a legal history is the one that the board gives after the entries before it
abbrev pub LastIsAnswer : Type 0
LastIsAnswer = (h : History) (e : Entry) → IsLegal (with_entry h e) → IsAnswer (board_of h) e.event
