-- What a replica promises over whole runs: lists of calls, what each answers, and what they make of a replica.
use Rattle.std.specs.Prelude.{◌≡◌, ◌≢◌, ◌↔◌, ℕ, ◌+◌, ◌/◌, ◌%◌, ◌<◌, ◌≤◌, ◌&&◌, Bool, false, List, [], ◌∷◌, IsTrue, None, Some, Result, Ok, Err, OnOk, OnErr, max, slice_index_or}
use Rattle.ball_model.specs.declared.names.BatchName.{BatchName}
use Rattle.ball_model.specs.declared.names.Taken.{Taken}
use Rattle.ball_model.specs.declared.names.TakeError.{TakeError}
use Rattle.ball_model.specs.declared.names.CloseError.{CloseError}
use Rattle.ball_model.specs.declared.names.MergeError.{MergeError}
use Rattle.ball_model.specs.declared.names.MergeError.TheVariants as refusal
use Rattle.ball_model.specs.declared.names.Verdict.TheVariants as verdict
use Rattle.ball_model.specs.Graph.{is_path, is_counted}
use Rattle.ball_model.specs.Counter.{counter_of}
use Rattle.ball_model.specs.Change.{any_changed}
use Rattle.ball_model.specs.Supersteps.{end_of}
use Rattle.ball_model.specs.PlanValue.{mixing_of}
use Rattle.ball_model.specs.Job.{Job}
use Rattle.ball_model.specs.Content.{Content, IsContent, take_of, is_new, missing_of, close_of, after_close}
use Rattle.ball_model.specs.Join.{union_of}
use Rattle.ball_model.specs.State.{State, StandsFor, content_of}
use Rattle.ball_model.specs.Steps.{Call, Take, Close, Merge, CallAnswer, Took, Closed, Merged, start_content, content_after_all, answers_due}
use Rattle.replica.specs.Change.{HoldsAfter}
use Rattle.replica.specs.Level.{EndsRun, found_verdict}
use Rattle.replica.specs.Seen.{IsState}

-- the replica stands for the partition and has that content
pub record HasContent (j : Job) (p : ℕ) (c : Content) (v : State) : Type 0 where
  pub stands : StandsFor j p c.superstep v
  pub names : (s q : ℕ) → (content_of v).holds s q ≡ c.holds s q

-- what a call of `take` with the true batch of that name promises, of its answer
pub record Takes (j : Job) (p : ℕ) (name : BatchName) (r : Result Taken TakeError)
    (v w : State) : Type 0 where
  pub answer : r ≡ take_of v.part.plan v.part.number (content_of v) j.plan name
  pub names : HoldsAfter (is_new r) name v w
  pub stands : (t : ℕ) → StandsFor j p t v → StandsFor j p t w

-- what a call of `close` promises, of its answer
pub record Closes (j : Job) (p : ℕ) (r : Result ℕ CloseError) (v w : State) : Type 0 where
  pub refused : OnErr r (w ≡ v)
  pub names : OnOk r ((s q : ℕ) → (content_of w).holds s q ≡ (after_close (content_of v)).holds s q)
  pub answer : (t : ℕ) → StandsFor j p t v → r ≡ close_of j p (content_of v)
  pub stands : (t : ℕ) → StandsFor j p t v → OnOk r (StandsFor j p (t + 1) w)

-- what a call of `merge` with a snapshot of a replica of the same partition with content d promises, of its answer
pub record Merges (j : Job) (p : ℕ) (d : Content) (r : Result (Unit {0}) MergeError)
    (v w : State) : Type 0 where
  pub answer : (t : ℕ) → StandsFor j p t v → r ≢ Err refusal.Memory → r ≡ Ok tt
  pub refused : OnErr r (w ≡ v)
  pub names : OnOk r ((s q : ℕ) → (content_of w).holds s q ≡ (union_of (content_of v) d).holds s q)
  pub stands : (t : ℕ) → StandsFor j p t v → OnOk r (StandsFor j p (max t d.superstep) w)

-- this call, with this answer, made the one of the other; a merge that was refused memory changes nothing and is no call
abbrev pub Did : Job → ℕ → Call → CallAnswer → State → State → Type 0
Did j p (Take name) (Took r) v w = Takes j p name r v w
Did j p Close (Closed r) v w = Closes j p r v w
Did j p (Merge d) (Merged r) v w = (r ≢ Err refusal.Memory) × Merges j p d r v w
Did j p call answer v w = ⊥

-- these calls, one after the other, each with its answer, made the one of the other
unfoldable pub DidAll : Job → ℕ → State → List Call → List CallAnswer → State → Type 0
DidAll j p v [] [] w = w ≡ v
DidAll j p v (call ∷ calls) (answer ∷ answers) w =
    (u : State) × Did j p call answer v u × DidAll j p u calls answers w
DidAll j p v calls answers w = ⊥

-- from the start, by any list of calls, a replica stands for what the calls make of its content
abbrev pub RunStands : Type 0
RunStands = (j : Job) (p : ℕ) (calls : List Call) (answers : List CallAnswer) (v w : State) →
    HasContent j p start_content v → DidAll j p v calls answers w →
    HasContent j p (content_after_all j p start_content calls) w

-- and each call answers what the content says
abbrev pub RunAnswersAsDue : Type 0
RunAnswersAsDue = (j : Job) (p : ℕ) (calls : List Call) (answers : List CallAnswer) (v w : State) →
    HasContent j p start_content v → DidAll j p v calls answers w →
    answers ≡ answers_due j p start_content calls

-- how many of these answers are of a close that went on
unfoldable pub closes_in : List CallAnswer → ℕ
closes_in [] = 0
closes_in (Closed (Ok t) ∷ answers) = closes_in answers + 1
closes_in (answer ∷ answers) = closes_in answers

-- its superstep is at most the end, and at least the number of closes that went on
abbrev pub RunIsInTime : Type 0
RunIsInTime = (j : Job) (p : ℕ) (calls : List Call) (answers : List CallAnswer) (v w : State) →
    HasContent j p start_content v → DidAll j p v calls answers w →
    (closes_in answers ≤ w.superstep)
    × (w.superstep ≤ end_of (mixing_of j.plan) j.graph j.plan.limit)

-- the verdict of the replica is stable exactly if the level is held, the superstep is not 0, and no vertex of
-- the graph is changed
abbrev pub StableIsQuiet : Type 0
StableIsQuiet = (j : Job) (p t : ℕ) (v : State) → StandsFor j p t v →
    (found_verdict v ≡ Some verdict.Stable)
    ↔ ((missing_of j.plan.parts p (content_of v) ≡ None) × (1 ≤ t)
    × (any_changed (mixing_of j.plan) j.graph t ≡ false))

-- a replica whose verdict is that the run is over is at the end
abbrev pub OverIsAtEnd : Type 0
OverIsAtEnd = (j : Job) (p t : ℕ) (v : State) → StandsFor j p t v → EndsRun (found_verdict v) →
    t ≡ end_of (mixing_of j.plan) j.graph j.plan.limit

-- if it is stable, each row is the counter of all counted vertices that can reach its vertex
abbrev pub StableReaches : Type 0
StableReaches = (j : Job) (p t x : ℕ) (v : State) (reaches : ℕ → Bool) → StandsFor j p t v →
    found_verdict v ≡ Some verdict.Stable → x < j.graph.vertices →
    x % j.plan.parts ≡ p →
    ((y : ℕ) → y < j.graph.vertices →
    IsTrue (reaches y) ↔ ((path : List ℕ) × IsTrue (is_path j.graph y x path))) →
    slice_index_or v.rows (x / j.plan.parts) []
    ≡ counter_of (mixing_of j.plan) j.graph.vertices (λ y. reaches y && is_counted j.graph y)

-- replicas that stand for one partition and superstep and hold the same names are equal in all that they have
abbrev pub SameContentIsSame : Type 0
SameContentIsSame = (j : Job) (p : ℕ) (c : Content) (v w : State) → HasContent j p c v →
    HasContent j p c w → IsState v → IsState w → v ≡ w

-- and the same calls on both have the same answers, and leave both with one content
abbrev pub SameCallsAlike : Type 0
SameCallsAlike =
    (j : Job) (p : ℕ) (c : Content) (calls : List Call) (left right : List CallAnswer)
    (v v2 w w2 : State) → HasContent j p c v → HasContent j p c w →
    DidAll j p v calls left v2 → DidAll j p w calls right w2 →
    (left ≡ right) × ((e : Content) × HasContent j p e v2 × HasContent j p e w2)

-- whatever its batches say, a replica holds only batches that may be held
abbrev pub HoldsItsWindow : Type 0
HoldsItsWindow = (v : State) → IsState v → IsContent v.part.plan v.part.number (content_of v)
