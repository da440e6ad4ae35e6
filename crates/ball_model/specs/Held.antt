-- The steps of a holding: what each call answers, and the holding after it.
use Rattle.std.specs.Prelude.{◌≡◌, ◌≢◌, ℕ, ◌<◌, ◌≤◌, Result}
use Rattle.ball_model.specs.declared.names.BatchName.{BatchName}
use Rattle.ball_model.specs.declared.names.Taken.{Taken}
use Rattle.ball_model.specs.declared.names.TakeError.{TakeError}
use Rattle.ball_model.specs.declared.names.CloseError.{CloseError}
use Rattle.ball_model.specs.PlanValue.{PlanValue}
use Rattle.ball_model.specs.Job.{Job}
use Rattle.ball_model.specs.Content.{take_of, close_of}
use Rattle.ball_model.specs.Join.{Holding, IsHolding, content_in, holding_of, join_of}
use Rattle.ball_model.specs.State.{State, StandsFor}
use Rattle.ball_model.specs.History.{holding_in}
use Rattle.ball_model.specs.Steps.{Call, Take, Close, start_content, content_after}

-- the start of a partition: superstep 0, and no batches
abbrev pub start_holding : PlanValue → ℕ → Holding
start_holding plan p = holding_of plan p start_content

-- the answer to the true batch of a name
abbrev pub held_take_answer : Job → Holding → BatchName → Result Taken TakeError
held_take_answer j h name = take_of j.plan h.partition (content_in h) j.plan name

-- the answer to a close
abbrev pub held_close_answer : Job → Holding → Result ℕ CloseError
held_close_answer j h = close_of j h.partition (content_in h)

-- the holding after a call
abbrev pub held_after : Job → Holding → Call → Holding
held_after j h call =
    holding_of h.plan h.partition (content_after j h.partition (content_in h) call)

-- what partition p of the job may hold
pub record IsHeldBy (j : Job) (p : ℕ) (h : Holding) : Type 0 where
  pub plan : h.plan ≡ j.plan
  pub partition : h.partition ≡ p
  pub below : p < j.plan.parts
  pub holding : IsHolding h

-- the name of a batch that one partition of the plan may send another
pub record IsName (plan : PlanValue) (name : BatchName) : Type 0 where
  pub superstep : name.superstep ≤ plan.limit
  pub source : name.source < plan.parts
  pub target : name.target < plan.parts
  pub other : name.source ≢ name.target

-- the replica or snapshot stands for its partition at its superstep, and that is what it holds
pub record HasHolding (j : Job) (h : Holding) (v : State) : Type 0 where
  pub content : holding_in v ≡ h
  pub stands : StandsFor j h.partition h.superstep v

-- ---- laws. Each is the contract of a function of src/world.rt

-- a partition may hold what it starts with
abbrev pub StartIsHeld : Type 0
StartIsHeld = (j : Job) (p : ℕ) → p < j.plan.parts → IsHeldBy j p (start_holding j.plan p)

-- what it holds after the batch of a name was taken
abbrev pub TakenIsHeld : Type 0
TakenIsHeld = (j : Job) (p : ℕ) (h : Holding) (name : BatchName) → IsHeldBy j p h →
    IsName j.plan name → IsHeldBy j p (held_after j h (Take name))

-- what it holds after a close
abbrev pub ClosedIsHeld : Type 0
ClosedIsHeld = (j : Job) (p : ℕ) (h : Holding) → IsHeldBy j p h →
    IsHeldBy j p (held_after j h Close)

-- and what it holds after it was joined with what it may hold
abbrev pub JoinedIsHeld : Type 0
JoinedIsHeld = (j : Job) (p : ℕ) (h d : Holding) → IsHeldBy j p h → IsHeldBy j p d →
    IsHeldBy j p (join_of h d)

-- plain data loses nothing: the content of the holding after a take is that content after the take
abbrev pub TakenIsContent : Type 0
TakenIsContent = (j : Job) (p : ℕ) (h : Holding) (name : BatchName) → IsHeldBy j p h →
    IsName j.plan name →
    content_in (held_after j h (Take name))
    ≡ content_after j h.partition (content_in h) (Take name)

-- and so it is after a close
abbrev pub ClosedIsContent : Type 0
ClosedIsContent = (j : Job) (p : ℕ) (h : Holding) → IsHeldBy j p h →
    content_in (held_after j h Close) ≡ content_after j h.partition (content_in h) Close
