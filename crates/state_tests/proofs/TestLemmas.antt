-- That the replicas of a test stand for its job.
use Rattle.std.proofs.Common.{◌≡◌, ℕ, ◌+◌, sym, ap, ◌∙◌, subst}
use Rattle.std.specs.Prelude.{Result, Ok, Err, OnErr, OnOk}
use Rattle.replica.proofs.LevelLemmas.Level.{part_number}
use Rattle.ball_model.specs.Job.{Job, PartValue}
use Rattle.ball_model.specs.State.{State, StandsFor, Stands}

-- what stands for a partition at a superstep stands for its own
pub stands_self : (j : Job) (p t : ℕ) (v : State) → StandsFor j p t v → Stands j v
stands_self j p t v s =
    let number : v.part.number ≡ p = ap (λ (x : PartValue). x.number) s.part ∙ part_number j p in
    subst (λ (x : ℕ × ℕ). StandsFor j x.0 x.1 v) (λ i. (sym number i, sym s.superstep i)) s

-- what was to close stands for its own too, whether it closed or stayed
pub stands_on : {T E : Type 0} (j : Job) (p t : ℕ) (v w : State) (r : Result T E) → StandsFor j p t v → OnOk r (StandsFor j p (t + 1) w) → OnErr r (w ≡ v) → Stands j w
stands_on j p t v w (Ok x) stands further same = stands_self j p (t + 1) w further
stands_on j p t v w (Err e) stands further same = subst (Stands j) (sym same) (stands_self j p t v stands)
