-- Why a job that was read has no node.
use Rattle.std.proofs.Common.{◌≡◌, ℕ, Bool, List, sym, subst}
use Rattle.std.specs.Prelude.{Option, Result, Ok, Err, IfErr}
use Rattle.ball_model.specs.Input.{Network}
use Rattle.ball_model.specs.PlanValue.{PlanValue}
use Rattle.ball_model.specs.RunText.{Settings}
use Rattle.job.specs.declared.error.InputError.TheVariants as no_job
use Rattle.job.specs.Input.{IsJobRead}
use Rattle.node.specs.declared.error.ServeNodeError.{ServeNodeError}
use Rattle.node.specs.declared.error.ServeNodeError.TheVariants as fault
use Rattle.node.specs.NoNode.{HasNoNode, IsNoNode, IsNoStart}

no_start : (s : Settings) (counted : Bool) (p : ℕ) (x y : Option (List ℕ)) (network : Network) (plan : PlanValue) (e : ServeNodeError) → IsJobRead s counted x y network plan → IsNoStart plan p e →
    HasNoNode s counted p x y e
no_start s counted p x y network plan fault.Part job beyond = record { network = network; plan = plan; job = job; beyond = beyond }
no_start s counted p x y network plan (fault.Job no_job.Memory) job below = tt
no_start s counted p x y network plan e job none = absurd none

pub no_node : {T : Type 0} (s : Settings) (counted : Bool) (p : ℕ) (x y y' : Option (List ℕ)) (network : Network) (plan : PlanValue) (r : Result T ServeNodeError) → IsJobRead s counted x y network plan →
    IfErr r (λ e. IsNoNode e → y' ≡ y) → IfErr r (λ e. IsNoNode e → IsNoStart plan p e) → IfErr r (λ e. IsNoNode e → HasNoNode s counted p x y' e)
no_node s counted p x y y' network plan (Ok u) job same refused = tt
no_node s counted p x y y' network plan (Err e) job same refused = λ none.
    subst (λ (left : Option (List ℕ)). HasNoNode s counted p x left e) (sym (same none)) (no_start s counted p x y network plan e job (refused none))

pub not_unread : {T : Type 0} (p : ℕ) (plan : PlanValue) (r : Result T ServeNodeError) → IfErr r (λ e. IsNoNode e → IsNoStart plan p e) → r ≡ Err (fault.Job no_job.Read) → ⊥
not_unread p plan (Ok u) refused is = absurd (cc)
not_unread p plan (Err e) refused is =
    let one : e ≡ fault.Job no_job.Read = cc in
    subst (λ (f : ServeNodeError). IsNoNode f → IsNoStart plan p f) one refused tt
