use Rattle.std.proofs.Common.{◌≡◌, ◌&&◌, drop}
use Rattle.ball_model.specs.Job.{Job}
use Rattle.workers.specs.declared.options.RunOptions.{RunOptions}
use Rattle.workers.specs.Job.{AreEnds}
use Rattle.workers.specs.Ends.{each_has_done, faults_in}
use Rattle.workers.proofs.EndsLemmas.{with_parts}
use Rattle.workers.proofs.JobLemmas.{AllSoFar}
use Rattle.workers.proofs.ends.fault_in.Given as goal

abbrev pub invariant-loop-own : goal.invariant-loop-own
invariant-loop-own l = record {
  place : l.p ≡ l.own-index;
  so_far : (j : Job) (o : RunOptions) → AreEnds (λ own. own.items) j o l.ends → AllSoFar (λ own. own.items) j o l.p (drop l.own-index l.ends) l.faults;
  noted : with_parts (λ own. own.items) l.p (drop l.own-index l.ends) l.faults ≡ faults_in (λ own. own.items) l.ends;
  complete : (l.complete && each_has_done (λ own. own.items) (drop l.own-index l.ends)) ≡ each_has_done (λ own. own.items) l.ends;
}
