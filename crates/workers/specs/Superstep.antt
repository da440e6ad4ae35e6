-- A superstep of a node, and how the node's replica fares.
use Rattle.std.specs.Prelude.{◌≡◌, ◌≢◌, ⊤, ℕ, ◌<◌, ◌-◌, ◌⊎◌, max, Option, None, Some, Result, Ok, Err, IfErr, IfOk}
use Rattle.ball_model.specs.Job.{IsJob, Job, PartValue, part_of}
use Rattle.ball_model.specs.State.{State, StandsFor}
use Rattle.ball_model.specs.Caller.{Called, CalledNothing, Caller, IsFull}
use Rattle.ball_model.specs.History.{Drop, Keep, Recall, holding_in}
use Rattle.ball_model.specs.declared.history.Kept.{Kept}
use Rattle.ball_model.specs.Held.{start_holding}
use Rattle.ball_model.specs.Join.{Holding}
use Rattle.replica.specs.Level.{EndsRun, found_verdict, missing_in}
use Rattle.replica.specs.Sent.{batch_name}
use Rattle.workers.specs.declared.worker.node_run.Fate.{Fate}
use Rattle.workers.specs.declared.worker.node_run.Fate.TheVariants as fate
use Rattle.workers.specs.declared.worker.node_run.NodeEnd.{NodeEnd}
use Rattle.workers.specs.declared.worker.node_run.NodeEnd.TheVariants as ends
use Rattle.workers.specs.declared.worker.node_run.NodeError.{NodeError}
use Rattle.workers.specs.declared.worker.node_run.NodeError.TheVariants as fault
use Rattle.workers.specs.declared.worker.node_run.NodeOrders.{NodeOrders}
use Rattle.workers.specs.declared.worker.superstep.Found.{Found}
use Rattle.workers.specs.declared.worker.superstep.Found.TheVariants as found
use Rattle.workers.specs.declared.worker.superstep.SuperstepEnd.{SuperstepEnd}
use Rattle.workers.specs.declared.worker.superstep.SuperstepEnd.TheVariants as superstep_end
use Rattle.workers.specs.Node.{FallsDue, HasToldAll, IfDone, IfLost, IfStarved, IsDone, WasMissing}
use Rattle.workers.specs.Tie.{HasReached, IsNodePath, IsPath, IsPathTo, KeptFirstIfTold, KeptIfTold}

-- the replica stands for partition p of the caller's job, at its superstep
abbrev pub StandsIn : Caller → ℕ → State → Type 0
StandsIn v p r = StandsFor v.seen.job p r.superstep r

-- it is the part of partition p of the caller's job
pub record IsPartOf (v : Caller) (p : ℕ) (value : PartValue) : Type 0 where
  pub job : IsJob v.seen.job
  pub below : p < v.seen.job.plan.parts
  pub part : value ≡ part_of v.seen.job p

-- the batch of superstep s from q, another partition, was missing
pub record WasWaiting (v : Caller) (s q p : ℕ) (w : Caller) : Type 0 where
  pub missing : WasMissing v (batch_name s q p) w
  pub below : q < v.seen.job.plan.parts
  pub other : q ≢ p

-- a replica of partition p at superstep 0, which holds what a node holds at its start
pub record IsFirst (j : Job) (p : ℕ) (r : State) : Type 0 where
  pub stands : StandsFor j p 0 r
  pub held : holding_in r ≡ start_holding j.plan p

-- what a replica, of superstep s before, has found: its level is held; it is at a further superstep; or a batch of the
-- level is missing
abbrev pub IsFound : Caller → ℕ → ℕ → State → Found → Caller → Type 0
IsFound v p s r found.Level w = (missing_in r ≡ None) × (r.superstep ≡ s)
IsFound v p s r found.Further w = s < r.superstep
IsFound v p s r (found.Missed q) w = WasWaiting v s q p w × (r.superstep ≡ s)

-- the partition has posted for all others, and waited for the batch of q
abbrev pub HasStarved : Caller → ℕ → ℕ → ℕ → Caller → Type 0
HasStarved v s q p w = HasToldAll v s p w × WasWaiting v s q p w

-- what the end of a superstep says of the replica, as it is then
abbrev pub IsSuperstepEnd : Caller → ℕ → State → SuperstepEnd → Caller → Type 0
IsSuperstepEnd v p r superstep_end.Next w = ⊤
IsSuperstepEnd v p r superstep_end.Over w = HasToldAll v r.superstep p w × EndsRun (found_verdict r)
IsSuperstepEnd v p r (superstep_end.Starved q) w = HasStarved v r.superstep q p w

-- a node of partition p, whose replica was `old`, ended a superstep so: what that says of the replica, and that it is at
-- another superstep only to go on; what was to be kept is, before any other call; and the calls since then are a path
pub record EndsSuperstep (keep : ℕ) (v : Caller) (p : ℕ) (old new : State) (end : SuperstepEnd)
    (w : Caller) : Type 0 where
  pub stands : StandsIn v p new
  pub is : IsSuperstepEnd v p new end w
  pub stays : end ≢ superstep_end.Next → new.superstep ≡ old.superstep
  pub kept : KeptIfTold keep v old.superstep w
  pub kept_first : KeptFirstIfTold keep v old.superstep w
  pub came : IsPath keep v p (holding_in old) (holding_in new) w

-- what a fate says of the replica, as it is then
abbrev pub IsFate : Caller → ℕ → NodeOrders → State → Fate → Caller → Type 0
IsFate v p orders r fate.Done w =
    HasToldAll v r.superstep p w × KeptIfTold orders.keep v r.superstep w
    × IsDone v.seen.job p r × (FallsDue orders.lose r.superstep → ⊥)
IsFate v p orders r (fate.Lost s) w = FallsDue orders.lose s × (s ≡ r.superstep)
IsFate v p orders r (fate.Starved s q) w = HasStarved v s q p w × KeptIfTold orders.keep v s w

-- how a node ends by a fate that is not to reach the end of the run
abbrev pub early_end : Fate → Option NodeEnd
early_end fate.Done = None
early_end (fate.Lost s) = Some (ends.Lost s)
early_end (fate.Starved s q) = Some (ends.Starved s q)

-- how a node ends by the fate of its replica, or by the fault that it met
abbrev pub end_with : Result Fate NodeError → State → Result NodeEnd NodeError
end_with (Ok fate.Done) r = Ok (ends.Done r)
end_with (Ok (fate.Lost s)) r = Ok (ends.Lost s)
end_with (Ok (fate.Starved s q)) r = Ok (ends.Starved s q)
end_with (Err e) r = Err e

-- the caller kept that content, and made no other call
pub record HasKept (v : Caller) (content : Holding) (w : Caller) : Type 0 where
  pub reply : Kept
  pub called : Called v (Keep content reply) w

-- at superstep s the caller drops the batches before the last superstep, or makes no call
abbrev pub DropsBefore : Caller → ℕ → Caller → Type 0
DropsBefore v s w = CalledNothing v w ⊎ Called v (Drop (s - 1)) w

-- the caller recalled a snapshot of partition p, from superstep `least` on, and went from one superstep to the further
-- of that and the snapshot's
pub record HasRecalled (v : Caller) (p least before now : ℕ) (w : Caller) : Type 0 where
  pub content : Holding
  pub called : Called v (Recall p least content) w
  pub superstep : now ≡ max before content.superstep

-- a replica that starts again is at the start, or took over a snapshot
abbrev pub IsAnew : Caller → ℕ → ℕ → Caller → Type 0
IsAnew v p now w = (now ≡ 0) ⊎ HasRecalled v p 0 0 now w

-- what the end of a node of partition p says, which had these orders
pub record EndsAs (v : Caller) (p : ℕ) (orders : NodeOrders) (e : Result NodeEnd NodeError)
    (w : Caller) : Type 0 where
  pub done : IfOk e (λ end. IfDone end (IsDone v.seen.job p))
  pub told : IfOk e (λ end. IfDone end (λ r. HasToldAll v r.superstep p w))
  pub kept : IfOk e (λ end. IfDone end (λ r. KeptIfTold orders.keep v r.superstep w))
  pub lost : IfOk e (λ end. IfLost end (FallsDue orders.lose))
  pub reached : IfOk e (λ end. IfLost end (λ s. HasReached orders.keep v p s w))
  pub spared : IfOk e (λ end. IfDone end (λ r. FallsDue orders.lose r.superstep → ⊥))
  pub starved : IfOk e (λ end. IfStarved end (λ s q. WasMissing v (batch_name s q p) w))
  pub starved_told : IfOk e (λ end. IfStarved end (λ s q. HasToldAll v s p w))
  pub starved_kept : IfOk e (λ end. IfStarved end (λ s q. KeptIfTold orders.keep v s w))
  pub source : IfOk e (λ end. IfStarved end (λ s q. (q < v.seen.job.plan.parts) × (q ≢ p)))
  pub path : IsNodePath orders.keep v p w
  pub came : IfOk e (λ end. IfDone end (λ r. IsPathTo orders.keep v p r w))
  pub full : IfErr e (λ e. e ≡ fault.BookFull → IsFull w)
  pub alone : v.seen.job.plan.parts ≡ 1 → IfOk e (λ end. IfStarved end (λ s q. ⊥))
