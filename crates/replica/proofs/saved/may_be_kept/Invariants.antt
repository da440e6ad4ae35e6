use Rattle.std.proofs.Common.{map}
use Rattle.replica.proofs.Names.{arc_value}
use Rattle.replica.proofs.SavedLemmas.Fits.{KeptSoFar}
use Rattle.replica.proofs.saved.may_be_kept.Given as goal

abbrev pub invariant-loop-batch : goal.invariant-loop-batch
invariant-loop-batch l = record {
  kept : KeptSoFar l.part.plan l.part.number l.superstep l.batch-index l.next (map arc_value l.early);
}
