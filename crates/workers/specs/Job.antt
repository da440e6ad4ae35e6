-- All nodes of a job: their orders, and what they say at their ends.
use Rattle.std.specs.Prelude.{◌≡◌, ◌≢◌, ⊤, ℕ, ◌+◌, ◌*◌, ◌^◌, ◌<◌, ◌≤◌, List, [], ◌∷◌, length, Option, None, is_some, true, false, Result, Err, IfErr, IfOk, IfSome, slice_index_or}
use Rattle.ball_model.specs.declared.names.NodeId.{NodeId}
use Rattle.ball_model.specs.declared.plan.TheConstants.{MOST_REPLICAS}
use Rattle.ball_model.specs.Caller.{Caller, Extends, IsCaller}
use Rattle.ball_model.specs.History.{calls_by, entries_of}
use Rattle.ball_model.specs.Job.{IsJob, Job, PartValue, job_of, part_of}
use Rattle.ball_model.specs.State.{State}
use Rattle.board.specs.Seats.{BoardView, SeatView, IsAt}
use Rattle.workers.specs.declared.ends.Faults.{Faults}
use Rattle.workers.specs.declared.worker.node_run.NodeEnd.{NodeEnd}
use Rattle.workers.specs.declared.worker.node_run.NodeError.{NodeError}
use Rattle.workers.specs.declared.worker.node_run.NodeError.TheVariants as fault
use Rattle.workers.specs.declared.worker.node_run.NodeOrders.{NodeOrders}
use Rattle.workers.specs.declared.options.RunOptions.{RunOptions}
use Rattle.workers.specs.declared.running.Running.{Running}
use Rattle.workers.specs.declared.runs.RunError.{RunError}
use Rattle.workers.specs.declared.runs.RunError.TheVariants as run
use Rattle.workers.specs.declared.assignment.Assignment.{Assignment}
use Rattle.workers.specs.Node.{FallsDue, IfDone, IfLost, IfStarved, IsDone}
use Rattle.workers.specs.Ends.{each_has_done, first_fault}
use Rattle.workers.specs.Options.{kept_by, order_for, orders_for}
use Rattle.workers.specs.Superstep.{EndsAs}
use Rattle.workers.specs.Tie.{AreOfPart}

-- each element has what its place says, if the first one has place k
abbrev pub EachAt : {A : Type 0} → (ℕ → A → Type 0) → ℕ → List A → Type 0
EachAt has k [] = ⊤
EachAt has k (x ∷ xs) = has k x × EachAt has (k + 1) xs

-- what a node of partition p with these orders says at its end
pub record KeepsItsOrders (j : Job) (p : ℕ) (orders : NodeOrders)
    (r : Result NodeEnd NodeError) : Type 0 where
  pub done : IfOk r (λ end. IfDone end (IsDone j p))
  pub lost : IfOk r (λ end. IfLost end (FallsDue orders.lose))
  pub alone : j.plan.parts ≡ 1 → IfOk r (λ end. IfStarved end (λ s q. ⊥))
  pub alone_fits : j.plan.parts ≡ 1 → orders.keep ≡ 0 → orders.restart ≡ None →
      r ≢ Err fault.BookFull

-- a run of a node of partition p that has these orders and this end: what its caller had seen before the first of its
-- calls, and after the last
pub record HasRun (j : Job) (entries p : ℕ) (orders : NodeOrders)
    (r : Result NodeEnd NodeError) : Type 0 where
  pub first : Caller
  pub last : Caller
  pub job : first.seen.job ≡ j
  pub start : calls_by first.number first.seen ≡ []
  pub seen : Extends first last
  pub ends : EndsAs first p orders r last
  pub made : AreOfPart j p (calls_by first.number last.seen)
  pub full : IfErr r (λ e. e ≡ fault.BookFull → entries_of last.seen ≡ entries)

-- the job of the plan with another digest
abbrev pub signed_job : Job → List ℕ → Job
signed_job j digest = record { graph = j.graph; plan = record j.plan { job = digest } }

-- the part of each partition
pub record AreParts (j : Job) (parts : List PartValue) : Type 0 where
  pub count : length parts ≡ j.plan.parts
  pub each : (p : ℕ) (d : PartValue) → p < j.plan.parts →
      slice_index_or parts p d ≡ part_of j p

-- the part of each partition, if there was memory for each
pub record AreMade {E : Type 0} (j : Job) (parts : List (Result PartValue E)) : Type 0 where
  pub count : length parts ≡ j.plan.parts
  pub each : (p : ℕ) (d : Result PartValue E) → p < j.plan.parts →
      IfOk (slice_index_or parts p d) (λ part. part ≡ part_of j p)

-- a seat of the board, which has seen a history of the job
pub record IsSeatOf (b : BoardView) (j : Job) (s : SeatView) : Type 0 where
  pub board : IsAt b s
  pub caller : IsCaller s.caller
  pub job : s.caller.seen.job ≡ j

-- a seat of the first seat's numbers, after so many splits
pub record HasSplit (b : BoardView) (j : Job) (splits : ℕ) (s : SeatView) : Type 0 where
  pub seat : IsSeatOf b j s
  pub least : 2 ^ 63 ≤ s.room + splits * 2 ^ 53
  pub most : s.room ≤ 2 ^ 63

-- what the threads of a run share: its board, its job, what is asked of it, and which of them have ended too early
pub record CrewView : Type 0 where
  pub board : BoardView
  pub job : Job
  pub options : RunOptions
  pub running : Running

-- a board of a job's run of which so much is asked
pub record IsCrew (b : BoardView) (j : Job) (o : RunOptions) : Type 0 where
  pub job : IsJob j
  pub few : o.replicas ≤ MOST_REPLICAS
  pub entries : o.entries ≡ b.limit

-- what is known of the end of node k of partition p
pub record IsNodeEnd (j : Job) (o : RunOptions) (p k : ℕ) (r : Result NodeEnd NodeError) : Type 0
  where
    pub orders : KeepsItsOrders j p (orders_for o p k) r
    pub ran : HasRun j o.entries p (orders_for o p k) r

-- the job of an assigned node
abbrev pub job_in : Assignment → Job
job_in assigned = job_of assigned.graph.value.graph assigned.plan.value

-- node k of partition p
pub record IsAssigned (j : Job) (o : RunOptions) (p k : ℕ) (assigned : Assignment) : Type 0 where
  pub job : job_in assigned ≡ j
  pub options : assigned.options.value ≡ o
  pub part : assigned.node.part ≡ p
  pub replica : assigned.node.replica ≡ k

-- the ends of the nodes of partition p
pub record IsPartEnd (j : Job) (o : RunOptions) (p : ℕ)
    (ends : List (Result NodeEnd NodeError)) : Type 0 where
  pub count : length ends ≡ o.replicas
  pub each : EachAt (λ k. KeepsItsOrders j p (orders_for o p k)) 0 ends
  pub ran : EachAt (λ k. HasRun j o.entries p (orders_for o p k)) 0 ends

-- the ends of all nodes, by partition
pub record AreEnds {V : Type 0} (items : V → List (Result NodeEnd NodeError)) (j : Job)
    (o : RunOptions) (ends : List V) : Type 0 where
  pub count : length ends ≡ j.plan.parts
  pub each : EachAt (λ p own. IsPartEnd j o p (items own)) 0 ends

-- each replica of partition p has an order among these
abbrev pub AllOrdered : ℕ → ℕ → List (NodeId × ℕ) → Type 0
AllOrdered replicas p orders = (k : ℕ) → k < replicas → is_some (order_for p k orders) ≡ true

-- the threads of partition p's nodes, each with the orders of its node
pub record IsPartStarted {H : Type 0} (assigned : H → Assignment) (j : Job) (o : RunOptions) (p : ℕ)
    (children : List (Option H)) : Type 0 where
  pub below : p < j.plan.parts
  pub count : length children ≡ o.replicas
  pub each : EachAt (λ k child. IfSome child (λ h. IsAssigned j o p k (assigned h))) 0 children

-- the threads of all nodes, by partition
pub record AreStarted {H V : Type 0} (assigned : H → Assignment) (items : V → List (Option H))
    (j : Job) (o : RunOptions) (children : List V) : Type 0 where
  pub count : length children ≡ j.plan.parts
  pub each : EachAt (λ p own. IsPartStarted assigned j o p (items own)) 0 children

-- a partition of so many, each replica of which was to be lost
pub record IsPartitionLost (parts : ℕ) (o : RunOptions) (p : ℕ) : Type 0 where
  pub below : p < parts
  pub ordered : AllOrdered o.replicas p o.lose.items

-- the first fault of the ends of all nodes, if some partition has no node that is done
pub record IsFirstFault (j : Job) (o : RunOptions) (e : RunError) : Type 0 where
  pub ends : List (List (Result NodeEnd NodeError))
  pub all : AreEnds (λ own. own) j o ends
  pub lacking : each_has_done (λ own. own) ends ≡ false
  pub first : e ≡ first_fault (λ own. own) ends

-- what is noted of the nodes of so many partitions
pub record AreNoted (parts : ℕ) (o : RunOptions) (f : Faults) : Type 0 where
  pub lost : IfSome f.lost (IsPartitionLost parts o)
  pub alone : parts ≡ 1 → f.starved ≡ None
  pub alone_fits : parts ≡ 1 → kept_by o ≡ 0 → o.restart.items ≡ [] → f.full ≡ false

-- a replica of each partition, in order, at the end of the job's run
pub record AreDone (j : Job) (rs : List State) : Type 0 where
  pub count : length rs ≡ j.plan.parts
  pub each : EachAt (IsDone j) 0 rs

-- what a fault of the nodes says of the options; no other error of a run is one of theirs
abbrev pub IsFaultOf : ℕ → RunOptions → RunError → Type 0
IsFaultOf parts o run.Options = ⊥
IsFaultOf parts o (run.Edges e) = ⊥
IsFaultOf parts o (run.Counted e) = ⊥
IsFaultOf parts o (run.Plan e) = ⊥
IsFaultOf parts o (run.PartitionLost p) = IsPartitionLost parts o p
IsFaultOf parts o run.BookFull = parts ≡ 1 → kept_by o ≡ 0 → o.restart.items ≢ []
IsFaultOf parts o run.Memory = ⊤
IsFaultOf parts o (run.Starved node s q) = parts ≢ 1
IsFaultOf parts o run.Write = ⊥
