-- The tie of a board's history to a world: what a node does at its board is what a node of a world does.
use Rattle.std.specs.Prelude.{◌≡◌, ◌≢◌, ⊤, ℕ, ◌<◌, true, List, [], ◌∷◌, ◌++◌, Some, option_map, if◌then◌else◌}
use mathlib.Core.List.{IsPrefix}
use Rattle.ball_model.specs.declared.names.BatchName.{BatchName}
use Rattle.ball_model.specs.declared.history.Kept.{Kept}
use Rattle.ball_model.specs.declared.names.NodeId.{NodeId}
use Rattle.ball_model.specs.declared.world.Event.{Event as Happening}
use Rattle.ball_model.specs.Job.{Job}
use Rattle.ball_model.specs.State.{State}
use Rattle.ball_model.specs.Join.{Holding, join_of}
use Rattle.ball_model.specs.Steps.{Take, Close}
use Rattle.ball_model.specs.Held.{start_holding, held_after}
use Rattle.ball_model.specs.History.{HistoryEvent, Post, Fetch, Keep, Recall, Drop, Entry, History, IsLegal, calls_by, is_new_post, holding_in}
use Rattle.ball_model.specs.Caller.{Caller}
use Rattle.ball_model.specs.World.{World, start_world, node_at, run_of}
use Rattle.workers.specs.Node.{is_kept_at}

-- a step of a node: a call of its board, with what it makes of the answer; a close of its superstep; a start anew,
-- with nothing of what it held
pub data Step : Type 0 where
  Calls : HistoryEvent → Step
  Closes : Step
  StartsAnew : Step

-- what a node holds after a call: it takes what it fetched, and merges what it recalled
abbrev pub after_board_call : Job → Holding → HistoryEvent → Holding
after_board_call j h (Post name r) = h
after_board_call j h (Fetch name) = held_after j h (Take name)
after_board_call j h (Keep c r) = h
after_board_call j h (Recall p s c) = join_of h c
after_board_call j h (Drop s) = h

-- what a node of partition p holds after a step
abbrev pub after_step : Job → ℕ → Holding → Step → Holding
after_step j p h (Calls e) = after_board_call j h e
after_step j p h Closes = held_after j h Close
after_step j p h StartsAnew = start_holding j.plan p

-- what it holds after a list of steps, one after the other
unfoldable pub after_steps : Job → ℕ → Holding → List Step → Holding
after_steps j p h [] = h
after_steps j p h (step ∷ steps) = after_steps j p (after_step j p h step) steps

-- the name of a batch that a node tells another partition
pub record IsOwnName (j : Job) (h : Holding) (name : BatchName) : Type 0 where
  pub superstep : name.superstep ≡ h.superstep
  pub source : name.source ≡ h.partition
  pub target : name.target < j.plan.parts
  pub other : name.target ≢ h.partition

-- a call that a node makes: it posts what it has to tell, keeps what it holds, and recalls for its own partition
abbrev pub IsOwnCall : Job → Holding → HistoryEvent → Type 0
IsOwnCall j h (Post name r) = IsOwnName j h name
IsOwnCall j h (Fetch name) = ⊤
IsOwnCall j h (Keep c r) = c ≡ h
IsOwnCall j h (Recall p s c) = p ≡ h.partition
IsOwnCall j h (Drop s) = ⊤

abbrev pub IsOwnStep : Job → Holding → Step → Type 0
IsOwnStep j h (Calls e) = IsOwnCall j h e
IsOwnStep j h Closes = ⊤
IsOwnStep j h StartsAnew = ⊤

-- each step is one that a node of partition p makes, from what it holds then
unfoldable pub AreOwnSteps : Job → ℕ → Holding → List Step → Type 0
AreOwnSteps j p h [] = ⊤
AreOwnSteps j p h (step ∷ steps) =
    IsOwnStep j h step × AreOwnSteps j p (after_step j p h step) steps

-- if a node at superstep s drops batches, those of the superstep before its own stay
abbrev pub SparesLast : ℕ → Step → Type 0
SparesLast s (Calls (Post name r)) = ⊤
SparesLast s (Calls (Fetch name)) = ⊤
SparesLast s (Calls (Keep c r)) = ⊤
SparesLast s (Calls (Recall p least c)) = ⊤
SparesLast s (Calls (Drop below)) = below < s
SparesLast s Closes = ⊤
SparesLast s StartsAnew = ⊤

-- so it is at each of the steps
unfoldable pub AllSpareLast : Job → ℕ → Holding → List Step → Type 0
AllSpareLast j p h [] = ⊤
AllSpareLast j p h (step ∷ steps) =
    SparesLast h.superstep step × AllSpareLast j p (after_step j p h step) steps

-- the calls among the steps
unfoldable pub calls_among : List Step → List HistoryEvent
calls_among [] = []
calls_among (Calls e ∷ steps) = e ∷ calls_among steps
calls_among (Closes ∷ steps) = calls_among steps
calls_among (StartsAnew ∷ steps) = calls_among steps

-- among the calls is a keep of a content of superstep s
pub record IsKeptAmong (s : ℕ) (made : List HistoryEvent) : Type 0 where
  pub before : List HistoryEvent
  pub content : Holding
  pub reply : Kept
  pub later : List HistoryEvent
  pub is : made ≡ before ++ Keep content reply ∷ later
  pub superstep : content.superstep ≡ s

-- a node that has made these calls closes no superstep that is to be kept which it has not kept, and keeps no other
abbrev pub KeepsAsTold : ℕ → List HistoryEvent → Holding → Step → Type 0
KeepsAsTold keep made h (Calls (Post name r)) = ⊤
KeepsAsTold keep made h (Calls (Fetch name)) = ⊤
KeepsAsTold keep made h (Calls (Keep c r)) = is_kept_at keep h.superstep ≡ true
KeepsAsTold keep made h (Calls (Recall p least c)) = ⊤
KeepsAsTold keep made h (Calls (Drop s)) = ⊤
KeepsAsTold keep made h Closes = is_kept_at keep h.superstep ≡ true → IsKeptAmong h.superstep made
KeepsAsTold keep made h StartsAnew = ⊤

-- so it is at each of the steps
unfoldable pub AllKeepAsTold : ℕ → Job → ℕ → List HistoryEvent → Holding → List Step → Type 0
AllKeepAsTold keep j p made h [] = ⊤
AllKeepAsTold keep j p made h (step ∷ steps) =
    KeepsAsTold keep made h step
    × AllKeepAsTold keep j p (made ++ calls_among (step ∷ [])) (after_step j p h step) steps

-- since then the caller's own calls are those of a node of partition p, which came from one holding to the other
pub record HasWandered (v : Caller) (p : ℕ) (old new : Holding) (w : Caller) : Type 0 where
  pub steps : List Step
  pub own : AreOwnSteps v.seen.job p old steps
  pub spared : AllSpareLast v.seen.job p old steps
  pub calls : calls_by v.number w.seen ≡ calls_by v.number v.seen ++ calls_among steps
  pub held : after_steps v.seen.job p old steps ≡ new

-- since then the caller's own calls are those of a node of partition p, which keeps a snapshot as often as `keep` says
-- and came from one holding to the other
pub record IsPath (keep : ℕ) (v : Caller) (p : ℕ) (old new : Holding) (w : Caller) : Type 0 where
  pub steps : List Step
  pub own : AreOwnSteps v.seen.job p old steps
  pub spared : AllSpareLast v.seen.job p old steps
  pub kept : AllKeepAsTold keep v.seen.job p [] old steps
  pub calls : calls_by v.number w.seen ≡ calls_by v.number v.seen ++ calls_among steps
  pub held : after_steps v.seen.job p old steps ≡ new

-- since then the caller's own calls are those of a node of partition p, which had that holding
pub record HasPath (keep : ℕ) (v : Caller) (p : ℕ) (old : Holding) (w : Caller) : Type 0 where
  pub new : Holding
  pub come : IsPath keep v p old new w

-- and it is such a path however often a snapshot is to be kept: by these calls none is kept, and no superstep closed
abbrev pub HasCome : Caller → ℕ → Holding → Holding → Caller → Type 0
HasCome v p old new w = (keep : ℕ) → IsPath keep v p old new w

pub record HasGone (v : Caller) (p : ℕ) (old : Holding) (w : Caller) : Type 0 where
  pub new : Holding
  pub come : HasCome v p old new w

-- since then the caller's own calls are those of a node of partition p from its start
abbrev pub IsNodePath : ℕ → Caller → ℕ → Caller → Type 0
IsNodePath keep v p w = HasPath keep v p (start_holding v.seen.job.plan p) w

-- and by them the node came to superstep s
pub record HasReached (keep : ℕ) (v : Caller) (p s : ℕ) (w : Caller) : Type 0 where
  pub held : Holding
  pub come : IsPath keep v p (start_holding v.seen.job.plan p) held w
  pub superstep : held.superstep ≡ s

-- and by them the node came to hold what that replica holds
abbrev pub IsPathTo : ℕ → Caller → ℕ → State → Caller → Type 0
IsPathTo keep v p r w = IsPath keep v p (start_holding v.seen.job.plan p) (holding_in r) w

-- among the caller's own calls since then is a keep of superstep s, if that is to be kept
pub record HasKeptAt (v : Caller) (s : ℕ) (w : Caller) : Type 0 where
  pub made : List HistoryEvent
  pub calls : calls_by v.number w.seen ≡ calls_by v.number v.seen ++ made
  pub kept : IsKeptAmong s made

abbrev pub KeptIfTold : ℕ → Caller → ℕ → Caller → Type 0
KeptIfTold keep v s w = is_kept_at keep s ≡ true → HasKeptAt v s w

-- the first of the caller's own calls since then is a keep of superstep s, if that is to be kept
pub record HasKeptFirst (v : Caller) (s : ℕ) (w : Caller) : Type 0 where
  pub content : Holding
  pub reply : Kept
  pub later : List HistoryEvent
  pub calls : calls_by v.number w.seen
      ≡ calls_by v.number v.seen ++ Keep content reply ∷ later
  pub superstep : content.superstep ≡ s

abbrev pub KeptFirstIfTold : ℕ → Caller → ℕ → Caller → Type 0
KeptFirstIfTold keep v s w = is_kept_at keep s ≡ true → HasKeptFirst v s w

-- from its start, by these steps with these calls, a node of partition p comes to hold c
pub record Reaches (j : Job) (p : ℕ) (made : List HistoryEvent) (steps : List Step)
    (c : Holding) : Type 0 where
  pub below : p < j.plan.parts
  pub own : AreOwnSteps j p (start_holding j.plan p) steps
  pub calls : calls_among steps ≡ made
  pub held : after_steps j p (start_holding j.plan p) steps ≡ c

-- the calls are those of a node of partition p
pub record AreOfPart (j : Job) (p : ℕ) (made : List HistoryEvent) : Type 0 where
  pub steps : List Step
  pub held : Holding
  pub path : Reaches j p made steps held

-- the calls are those of a node of some partition
pub record AreOfNode (j : Job) (made : List HistoryEvent) : Type 0 where
  pub part : ℕ
  pub steps : List Step
  pub held : Holding
  pub path : Reaches j part made steps held

-- the name of what a call posted, if it was new
abbrev pub sent_by : HistoryEvent → List BatchName
sent_by (Post name r) = if is_new_post r then name ∷ [] else []
sent_by (Fetch name) = []
sent_by (Keep c r) = []
sent_by (Recall p s c) = []
sent_by (Drop s) = []

-- the content that a call was to keep, also if another one was as far already
abbrev pub copied_by : HistoryEvent → List Holding
copied_by (Post name r) = []
copied_by (Fetch name) = []
copied_by (Keep c r) = c ∷ []
copied_by (Recall p s c) = []
copied_by (Drop s) = []

-- the names of a history's new posts, in order
unfoldable pub sent_in : List Entry → List BatchName
sent_in [] = []
sent_in (e ∷ es) = sent_by e.event ++ sent_in es

-- the contents of its keeps, in order
unfoldable pub copied_in : List Entry → List Holding
copied_in [] = []
copied_in (e ∷ es) = copied_by e.event ++ copied_in es

-- after these events, from that world, the node holds c, and nothing more was sent or copied
pub record ComesTo (j : Job) (w : World) (id : NodeId) (es : List Happening)
    (c : Holding) : Type 0 where
  pub sent : (run_of j w es).sent ≡ w.sent
  pub copies : (run_of j w es).copies ≡ w.copies
  pub content : option_map (λ n. n.content) (node_at (run_of j w es) id) ≡ Some c

-- a node of the world comes to hold c by some further events
pub record CanHold (j : Job) (w : World) (id : NodeId) (c : Holding) : Type 0 where
  pub events : List Happening
  pub comes : ComesTo j w id events c

-- a run of a world with so many replicas of each partition: what was sent are the names of the history's new posts,
-- what was copied are the contents of its keeps, and what a caller's node holds is held by a node of the world after
-- some further events, in which nothing more is sent or copied
pub record IsRunOfWorld (replicas : ℕ) (h : History) : Type 0 where
  pub events : List Happening
  pub sent : (run_of h.job (start_world h.job.plan replicas) events).sent ≡ sent_in h.calls
  pub copies : (run_of h.job (start_world h.job.plan replicas) events).copies ≡ copied_in h.calls
  pub held : (n : ℕ) (id : NodeId) (steps : List Step) (c : Holding) → id.replica < replicas →
      Reaches h.job id.part (calls_by n h) steps c →
      CanHold h.job (run_of h.job (start_world h.job.plan replicas) events) id c

-- a legal history, in which each caller's calls are those of a node, is a run of a world. The law is the contract of
-- a function of src/laws.rt
abbrev pub HistoriesAreRuns : Type 0
HistoriesAreRuns = (replicas : ℕ) (h : History) → 0 < replicas → IsLegal h →
    ((n : ℕ) → AreOfNode h.job (calls_by n h)) → IsRunOfWorld replicas h

-- the calls of a caller that made none before it ran a node are those of a node; and so are the first ones of them,
-- which are what a shorter history has
abbrev pub PathsAreOfNodes : Type 0
PathsAreOfNodes = (v w : Caller) (p : ℕ) (held : Holding) (made : List HistoryEvent) →
    p < v.seen.job.plan.parts → calls_by v.number v.seen ≡ [] →
    HasWandered v p (start_holding v.seen.job.plan p) held w →
    IsPrefix made (calls_by v.number w.seen) → AreOfNode v.seen.job made

-- there is a run of a world with the messages and the copies of the history, in which the node can hold what the
-- replica holds
pub record IsOfRun (replicas : ℕ) (h : History) (id : NodeId) (r : State) : Type 0 where
  pub run : IsRunOfWorld replicas h
  pub held : CanHold h.job (run_of h.job (start_world h.job.plan replicas) run.events) id
      (holding_in r)

-- what a replica holds that a caller came to, by a node that it ran, a run of a world reaches: in any legal history
-- which has all the caller's calls, and of each other caller such as are a node's
abbrev pub ReplicasAreOfRuns : Type 0
ReplicasAreOfRuns = (replicas : ℕ) (h : History) (v w : Caller) (id : NodeId) (r : State) →
    id.replica < replicas → id.part < h.job.plan.parts → IsLegal h → v.seen.job ≡ h.job →
    calls_by v.number v.seen ≡ [] →
    HasWandered v id.part (start_holding v.seen.job.plan id.part) (holding_in r) w →
    calls_by v.number h ≡ calls_by v.number w.seen →
    ((n : ℕ) → n ≢ v.number → AreOfNode h.job (calls_by n h)) → IsOfRun replicas h id r
