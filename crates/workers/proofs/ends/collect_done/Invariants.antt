use Rattle.std.proofs.Common.{◌≡◌, true}
use Rattle.std.specs.Vec.Iter.{into_iter_items}
use Rattle.ball_model.specs.Job.{Job}
use Rattle.workers.specs.declared.options.RunOptions.{RunOptions}
use Rattle.workers.specs.Job.{AreEnds}
use Rattle.workers.specs.Ends.{each_has_done}
use Rattle.workers.proofs.JobLemmas.{CollectSoFar}
use Rattle.workers.proofs.ends.collect_done.Given as goal

abbrev pub invariant-loop-own : goal.invariant-loop-own
invariant-loop-own l = record {
  have : each_has_done (λ own. own.items) (into_iter_items l.own-iterator) ≡ true;
  so_far : (j : Job) (o : RunOptions) → AreEnds (λ own. own.items) j o l.fn.ends.items → CollectSoFar (λ own. own.items) j o (into_iter_items l.own-iterator) l.replicas.items;
}
