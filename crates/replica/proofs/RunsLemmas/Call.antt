-- What a call of `take` promises to whole runs, from what its contract says.
use Rattle.std.proofs.Common.{◌≡◌, ℕ, ap, ◌∙◌}
use Rattle.replica.proofs.Names.{Result, PlanValue, Job, BatchValue, true_batch, take_of, is_new, after_take, State, StandsFor, content_of}
use Rattle.ball_model.specs.declared.names.Taken.{Taken}
use Rattle.ball_model.specs.declared.names.TakeError.{TakeError}
use Rattle.replica.specs.Runs.{Takes}

-- a true batch is of its job: its plan is the job's
true_plan : (j : Job) (b : BatchValue) → b ≡ true_batch j b.name → b.plan ≡ j.plan
unfolding true_batch
true_plan j b is = ap (λ (a : BatchValue). a.plan) is

-- a call of `take`
pub takes : (v w : State) (b : BatchValue) (r : Result Taken TakeError) → r ≡ take_of v.part.plan v.part.number (content_of v) b.plan b.name →
    ((s q : ℕ) → (content_of w).holds s q ≡ after_take (is_new r) (content_of v).holds b.name.superstep b.name.source s q) →
    ((j : Job) (p t : ℕ) → StandsFor j p t v → b ≡ true_batch j b.name → StandsFor j p t w) →
    (j : Job) (p : ℕ) → b ≡ true_batch j b.name → Takes j p b.name r v w
takes v w b r answer names stands j p is = record {
  answer = answer ∙ ap (λ (plan : PlanValue). take_of v.part.plan v.part.number (content_of v) plan b.name) (true_plan j b is);
  names = names;
  stands = λ t h. stands j p t h is;
}
