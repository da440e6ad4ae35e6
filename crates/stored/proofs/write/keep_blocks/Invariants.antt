use Rattle.std.proofs.Common.{◌-◌}
use Rattle.stored.specs.Stored.{stored_of}
use Rattle.stored.proofs.HaltLemmas.{Written}
use Rattle.stored.proofs.write.keep_blocks.Given as goal

abbrev pub invariant-loop-from : goal.invariant-loop-from
invariant-loop-from g l = Written g.W.Write.contents g.W.CountedWrite.failed_calls g.W.CountedWrite.sure_calls g.W.CountedWrite.room l.initial.writer l.writer l.initial.spool l.spool (stored_of l.graph).preds l.from

abbrev pub decreases-loop-from : goal.decreases-loop-from
decreases-loop-from g l = l.graph.graph.vertices - l.from
