use Rattle.std.proofs.Common.{◌∙◌, refl, subst, sym}
use Rattle.ball_model.specs.Job.{PartValue}
use Rattle.replica.specs.First.{BeginsAs}
use Rattle.replica.specs.Index.{targets_of}
use Rattle.replica.proofs.StartLemmas.Made.{begins_signed}
use Rattle.workers.proofs.indexed.IndexedPart.with_job.Goals as goal

pub invariant_of-result : goal.invariant_of-result
unfolding targets_of
invariant_of-result c = record {
  index = c.self.invariant.index ∙ rw c.with_job.ensures refl;
  first = subst (λ (a : PartValue). BeginsAs a c.self.inside.prepared.first) (sym c.with_job.ensures) (begins_signed c.self.inside.part c.args.job c.self.inside.prepared.first c.self.invariant.first);
}
