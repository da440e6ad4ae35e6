use Rattle.std.proofs.Common.{◌≡◌, ◌&&◌, ◌||◌, drop}
use Rattle.std.specs.List.{list_any}
use Rattle.ball_model.specs.Job.{Job}
use Rattle.workers.specs.declared.options.RunOptions.{RunOptions}
use Rattle.workers.specs.Job.{IsPartEnd}
use Rattle.workers.specs.Ends.{all_lost, is_done}
use Rattle.workers.proofs.EndsLemmas.{with_rest}
use Rattle.workers.proofs.JobLemmas.{PartSoFar}
use Rattle.workers.proofs.ends.note_part.Given as goal

abbrev pub invariant-loop-end : goal.invariant-loop-end
invariant-loop-end l = record {
  place : l.replica ≡ l.end-index;
  so_far : (j : Job) (o : RunOptions) → IsPartEnd j o l.p l.ends → PartSoFar j o l.p l.replica (drop l.end-index l.ends) l.fn.faults l.faults l.all_lost;
  noted : with_rest l.p l.replica (drop l.end-index l.ends) l.faults ≡ with_rest l.p 0 l.ends l.fn.faults;
  lost : (l.all_lost && all_lost (drop l.end-index l.ends)) ≡ all_lost l.ends;
  found : (l.done || list_any is_done (drop l.end-index l.ends)) ≡ list_any is_done l.ends;
}
