-- How a node of a run ends, and what its caller has then seen.
use Rattle.std.specs.Prelude.{◌≡◌, ◌≢◌, ⊤, ℕ, ◌<◌, ◌≤◌, ◌%◌, ◌==◌, ◌&&◌, Bool, not, false, List, ◌∷◌, ◌++◌, Option, None, Some}
use Rattle.ball_model.specs.declared.names.BatchName.{BatchName}
use Rattle.ball_model.specs.declared.history.Posted.{Posted}
use Rattle.ball_model.specs.PlanValue.{mixing_of}
use Rattle.ball_model.specs.Job.{Job}
use Rattle.ball_model.specs.Supersteps.{end_of}
use Rattle.ball_model.specs.State.{State, StandsFor}
use Rattle.ball_model.specs.History.{HistoryEvent, Post, History, Begins, calls_by, board_of}
use Rattle.ball_model.specs.Caller.{Caller}
use Rattle.board.specs.declared.error.BoardError.{BoardError}
use Rattle.board.specs.declared.error.BoardError.TheVariants as board
use Rattle.replica.specs.Level.{EndsRun, found_verdict}
use Rattle.replica.specs.Sent.{batch_name}
use Rattle.workers.specs.declared.worker.node_run.NodeEnd.{NodeEnd}
use Rattle.workers.specs.declared.worker.node_run.NodeEnd.TheVariants as ends
use Rattle.workers.specs.declared.worker.node_run.NodeError.{NodeError}
use Rattle.workers.specs.declared.worker.node_run.NodeError.TheVariants as fault

-- a node's error if its board refuses a call
abbrev pub node_error : BoardError → NodeError
node_error board.BookFull = fault.BookFull
node_error board.Memory = fault.Memory

-- there is an order, and it is for superstep s or an earlier one
abbrev pub FallsDue : Option ℕ → ℕ → Type 0
FallsDue None s = ⊥
FallsDue (Some at) s = at ≤ s

-- at superstep s a snapshot is kept, if one is every so many supersteps
abbrev pub is_kept_at : ℕ → ℕ → Bool
is_kept_at every s = not (every == 0) && (s % every == 0)

-- at some moment since then the name was not on the board
pub record WasMissing (v : Caller) (name : BatchName) (w : Caller) : Type 0 where
  pub moment : History
  pub since : Begins v.seen moment
  pub until : Begins moment w.seen
  pub missing : (board_of moment).stands name ≡ false

-- among the caller's own calls since then is a post of the name
pub record HasPosted (v : Caller) (name : BatchName) (w : Caller) : Type 0 where
  pub before : List HistoryEvent
  pub reply : Posted
  pub later : List HistoryEvent
  pub made : calls_by v.number w.seen
      ≡ calls_by v.number v.seen ++ (before ++ Post name reply ∷ later)

-- partition p has posted for every other one a batch of superstep s
abbrev pub HasToldAll : Caller → ℕ → ℕ → Caller → Type 0
HasToldAll v s p w = (r : ℕ) → r < v.seen.job.plan.parts → r ≢ p → HasPosted v (batch_name s p r) w

-- the replica stands for partition p at the end of the job's run, and says that the run is over
pub record IsDone (j : Job) (p : ℕ) (r : State) : Type 0 where
  pub stands : StandsFor j p (end_of (mixing_of j.plan) j.graph j.plan.limit) r
  pub over : EndsRun (found_verdict r)

-- what is said of the replica, if the node is done
abbrev pub IfDone : NodeEnd → (State → Type 0) → Type 0
IfDone (ends.Done r) says = says r
IfDone (ends.Lost s) says = ⊤
IfDone (ends.Starved s q) says = ⊤

-- what is said of the superstep, if the node was lost
abbrev pub IfLost : NodeEnd → (ℕ → Type 0) → Type 0
IfLost (ends.Done r) says = ⊤
IfLost (ends.Lost s) says = says s
IfLost (ends.Starved s q) says = ⊤

-- what is said of the superstep and the source, if the node waited in vain
abbrev pub IfStarved : NodeEnd → (ℕ → ℕ → Type 0) → Type 0
IfStarved (ends.Done r) says = ⊤
IfStarved (ends.Lost s) says = ⊤
IfStarved (ends.Starved s q) says = says s q
