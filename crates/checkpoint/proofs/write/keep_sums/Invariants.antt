use Rattle.std.proofs.Common.{take}
use Rattle.std.specs.List.{flat_map}
use Rattle.std.specs.Int.{w128, to_be_bytes}
use Rattle.checkpoint.specs.Spooled.{PassesOn}
use Rattle.checkpoint.proofs.write.keep_sums.Given as goal

abbrev pub invariant-loop-sum : goal.invariant-loop-sum
invariant-loop-sum g l = PassesOn g.W.Write.contents g.W.CountedWrite.failed_calls g.W.CountedWrite.sure_calls g.W.CountedWrite.room l.initial.writer l.writer l.initial.spool l.spool (flat_map (to_be_bytes w128) (take l.sum-index l.sums))
