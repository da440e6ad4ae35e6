use Rattle.std.proofs.Common.{map}
use Rattle.replica.proofs.Names.{arc_value}
use Rattle.replica.proofs.SavedLemmas.Saved.{Filled}
use Rattle.replica.proofs.replica.rebuild.kept.Given as goal

abbrev pub invariant-loop-batch : goal.invariant-loop-batch
invariant-loop-batch l = record {
  filled : Filled l.part.plan l.part.number l.superstep l.batch-index (map arc_value l.batches) l.early;
}
