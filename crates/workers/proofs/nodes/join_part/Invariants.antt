use Rattle.std.proofs.Common.{ℕ}
use Rattle.std.specs.Vec.Iter.{into_iter_items}
use Rattle.ball_model.specs.Job.{Job}
use Rattle.workers.specs.declared.options.RunOptions.{RunOptions}
use Rattle.workers.specs.Job.{IsPartStarted}
use Rattle.workers.proofs.JobLemmas.{Joining}
use Rattle.workers.proofs.nodes.join_part.Given as goal

abbrev pub invariant-loop-child : goal.invariant-loop-child
invariant-loop-child g l = (j : Job) (o : RunOptions) (p : ℕ) → IsPartStarted (λ h. h.promise) j o p l.fn.children.items →
    Joining (λ h. h.promise) j o p (into_iter_items l.child-iterator) l.ends.items
