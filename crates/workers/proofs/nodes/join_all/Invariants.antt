use Rattle.std.specs.Vec.Iter.{into_iter_items}
use Rattle.ball_model.specs.Job.{Job}
use Rattle.workers.specs.declared.options.RunOptions.{RunOptions}
use Rattle.workers.specs.Job.{AreStarted}
use Rattle.workers.proofs.JobLemmas.{JoiningAll}
use Rattle.workers.proofs.nodes.join_all.Given as goal

abbrev pub invariant-loop-own : goal.invariant-loop-own
invariant-loop-own g l = (j : Job) (o : RunOptions) → AreStarted (λ h. h.promise) (λ own. own.items) j o l.fn.children.items →
    JoiningAll (λ h. h.promise) (λ own. own.items) (λ own. own.items) j o (into_iter_items l.own-iterator) l.ends.items
