-- A run: what is asked of it, and what its refusals say of the input.
use Rattle.std.specs.Prelude.{◌≡◌, ⊤, ℕ, false, List, Option, Ok, IfSome, IsOk}
use Rattle.std.specs.Borrow.{Bor}
use Rattle.ball_model.specs.Input.{Network}
use Rattle.ball_model.specs.Job.{job_of}
use Rattle.ball_model.specs.PlanValue.{PlanValue}
use Rattle.ball_model.specs.RunText.{AppendsReport, ArePlain, AreRead, HasPlan, IsPlanFault, IsReport, Settings, list_in, network_in, plan_asked}
use Rattle.ball_model.specs.Streams.{PutsFront}
use Rattle.edgelist.specs.Reading.{Refuses}
use Rattle.graph.specs.Counting.{IsListRefusal}
use Rattle.job.specs.Job.{numbers_asked, settings_of}
use Rattle.job.specs.declared.job.NetworkError.{NetworkError}
use Rattle.job.specs.declared.job.NetworkError.TheVariants as unread
use Rattle.workers.specs.declared.options.RunOptions.{RunOptions}
use Rattle.workers.specs.declared.runs.RunError.{RunError}
use Rattle.workers.specs.declared.runs.RunError.TheVariants as fault
use Rattle.workers.specs.Job.{IsFaultOf, IsFirstFault}
use Rattle.workers.specs.Options.{are_in_limits, job_asked}

-- if a reader tells its bytes, and these and the list are plain, this holds of what is asked
abbrev pub WherePlain : RunOptions → Option (List ℕ) → Option (Bor (List ℕ)) →
    (Settings → List ℕ → Option (List ℕ) → Type 0) → Type 0
WherePlain o told counted holds = IfSome told (λ input.
    ArePlain input (list_in counted) → holds (settings_of (job_asked o)) input (list_in counted))

-- a writer of these contents is given the report of what is asked
abbrev pub AddsReport : {W : Type 0} → (W → Option (List ℕ)) → W → W →
    Settings → List ℕ → Option (List ℕ) → Type 0
AddsReport contents old new s input list = AppendsReport s input list (contents old) (contents new)

-- a beginning of the report of the input is appended, and not all of it
pub record BeginsReport (s : Settings) (input : List ℕ) (list : Option (List ℕ))
    (old new : Option (List ℕ)) : Type 0 where
  pub text : List ℕ
  pub report : IsReport s input list text
  pub front : PutsFront old new text

-- a writer of these contents is given a beginning of the report of what is asked, and not all of it
abbrev pub AddsFront : {W : Type 0} → (W → Option (List ℕ)) → W → W →
    Settings → List ℕ → Option (List ℕ) → Type 0
AddsFront contents old new s input list = BeginsReport s input list (contents old) (contents new)

-- both say a network, over which there is such a plan
pub record IsRunPlanned (s : Settings) (input : List ℕ) (list : Option (List ℕ)) : Type 0 where
  pub network : Network
  pub read : AreRead s input list network
  pub planned : HasPlan s.numbers network

-- the run's error for a refused network
abbrev pub network_fault : NetworkError → RunError
network_fault (unread.Edges e) = fault.Edges e
network_fault (unread.Counted e) = fault.Counted e

-- an error that only the ends of the nodes give: refused memory may come of more
abbrev pub IsOfEnds : RunError → Type 0
IsOfEnds fault.Options = ⊥
IsOfEnds (fault.Edges e) = ⊥
IsOfEnds (fault.Counted e) = ⊥
IsOfEnds (fault.Plan e) = ⊥
IsOfEnds (fault.PartitionLost p) = ⊤
IsOfEnds fault.BookFull = ⊤
IsOfEnds fault.Memory = ⊥
IsOfEnds (fault.Starved node s q) = ⊤
IsOfEnds fault.Write = ⊥

-- over a network there is such a plan, and the fault is the first of the ends of all nodes
pub record HasFirstFault (o : RunOptions) (network : Network) (e : RunError) : Type 0 where
  pub plan : PlanValue
  pub planned : plan_asked (numbers_asked (job_asked o)) network.graph ≡ Ok plan
  pub first : IsFirstFault (job_of network.graph plan) o e

-- and both say that network
pub record IsRunFault (o : RunOptions) (s : Settings) (input : List ℕ) (list : Option (List ℕ))
    (e : RunError) : Type 0 where
  pub network : Network
  pub read : AreRead s input list network
  pub first : HasFirstFault o network e

-- what a refusal says of the options
abbrev pub IsFaultIn : RunOptions → RunError → Type 0
IsFaultIn o fault.Options = are_in_limits o ≡ false
IsFaultIn o (fault.Edges e) = ⊤
IsFaultIn o (fault.Counted e) = ⊤
IsFaultIn o (fault.Plan e) = ⊤
IsFaultIn o (fault.PartitionLost p) = IsFaultOf o.parts o (fault.PartitionLost p)
IsFaultIn o fault.BookFull = IsFaultOf o.parts o fault.BookFull
IsFaultIn o fault.Memory = ⊤
IsFaultIn o (fault.Starved node s q) = IsFaultOf o.parts o (fault.Starved node s q)
IsFaultIn o fault.Write = ⊤

-- what a refusal says of the input: each comes only if all checks before it passed
abbrev pub IsRunRefusal : Settings → List ℕ → Option (List ℕ) → RunError → Type 0
IsRunRefusal s input list fault.Options = ⊤
IsRunRefusal s input list (fault.Edges e) = Refuses (network_in s input) e
IsRunRefusal s input list (fault.Counted e) = IsListRefusal s input list e
IsRunRefusal s input list (fault.Plan e) = IsPlanFault s input list e
IsRunRefusal s input list (fault.PartitionLost p) = IsRunPlanned s input list
IsRunRefusal s input list fault.BookFull = IsRunPlanned s input list
IsRunRefusal s input list fault.Memory = IsRunPlanned s input list
IsRunRefusal s input list (fault.Starved node r q) = IsRunPlanned s input list
IsRunRefusal s input list fault.Write = IsRunPlanned s input list

-- what a refusal says of the edge list, whatever the list of counted vertices is
abbrev pub RefusesEdges : Settings → List ℕ → RunError → Type 0
RefusesEdges s input fault.Options = ⊤
RefusesEdges s input (fault.Edges e) = Refuses (network_in s input) e
RefusesEdges s input (fault.Counted e) = IsOk (network_in s input)
RefusesEdges s input (fault.Plan e) = IsOk (network_in s input)
RefusesEdges s input (fault.PartitionLost p) = IsOk (network_in s input)
RefusesEdges s input fault.BookFull = IsOk (network_in s input)
RefusesEdges s input fault.Memory = IsOk (network_in s input)
RefusesEdges s input (fault.Starved node r q) = IsOk (network_in s input)
RefusesEdges s input fault.Write = IsOk (network_in s input)
