-- Why an input says no node.
use Rattle.std.specs.Prelude.{⊤, ℕ, ◌<◌, ◌≤◌, Bool, List, Option}
use Rattle.ball_model.specs.Input.{Network}
use Rattle.ball_model.specs.PlanValue.{PlanValue}
use Rattle.ball_model.specs.RunText.{Settings}
use Rattle.job.specs.declared.error.InputError.TheVariants as no_job
use Rattle.job.specs.Input.{IsJobRead}
use Rattle.job.specs.NoJob.{IsNoJob}
use Rattle.node.specs.declared.error.ServeNodeError.{ServeNodeError}
use Rattle.node.specs.declared.error.ServeNodeError.TheVariants as fault

-- the node gives up before it is at its start
abbrev pub IsNoNode : ServeNodeError → Type 0
IsNoNode (fault.Job e) = ⊤
IsNoNode fault.Part = ⊤
IsNoNode (fault.Serve e) = ⊥

-- the job has no partition p; memory is refused only if it has one
abbrev pub IsNoStart : PlanValue → ℕ → ServeNodeError → Type 0
IsNoStart plan p fault.Part = plan.parts ≤ p
IsNoStart plan p (fault.Job no_job.Memory) = p < plan.parts
IsNoStart plan p e = ⊥

-- the job of the input was read, and it has no partition p
pub record HasNoPart (s : Settings) (counted : Bool) (p : ℕ)
    (left left' : Option (List ℕ)) : Type 0 where
  pub network : Network
  pub plan : PlanValue
  pub job : IsJobRead s counted left left' network plan
  pub beyond : plan.parts ≤ p

-- the input says no job, or one without that partition
abbrev pub HasNoNode : Settings → Bool → ℕ → Option (List ℕ) → Option (List ℕ) →
    ServeNodeError → Type 0
HasNoNode s counted p left left' (fault.Job e) = IsNoJob s counted left left' e
HasNoNode s counted p left left' fault.Part = HasNoPart s counted p left left'
HasNoNode s counted p left left' (fault.Serve e) = ⊥
