use Rattle.std.proofs.Common.{take, length}
use Rattle.std.specs.List.{flat_map, range_with_len}
use Rattle.ball_model.specs.Checkpoint.{vertex_bytes}
use Rattle.checkpoint.specs.Spooled.{PassesOn}
use Rattle.checkpoint.proofs.write.keep_vertices.Given as goal

abbrev pub invariant-loop-i : goal.invariant-loop-i
invariant-loop-i g l = PassesOn g.W.Write.contents g.W.CountedWrite.failed_calls g.W.CountedWrite.sure_calls g.W.CountedWrite.room l.initial.writer l.writer l.initial.spool l.spool (flat_map (vertex_bytes l.replica) (take l.i (range_with_len 0 (length l.replica.part.preds))))
