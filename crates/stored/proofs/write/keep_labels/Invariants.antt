use Rattle.std.proofs.Common.{take}
use Rattle.stored.specs.Spooled.{PassesOn}
use Rattle.stored.specs.Stored.{label_lines}
use Rattle.stored.proofs.write.keep_labels.Given as goal

abbrev pub invariant-loop-v : goal.invariant-loop-v
invariant-loop-v g l = PassesOn g.W.Write.contents g.W.CountedWrite.failed_calls g.W.CountedWrite.sure_calls g.W.CountedWrite.room l.initial.writer l.writer l.initial.spool l.spool (label_lines (take l.v l.graph.labels))
