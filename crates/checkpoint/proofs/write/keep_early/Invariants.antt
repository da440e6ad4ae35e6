use Rattle.std.proofs.Common.{take}
use Rattle.std.specs.List.{flat_map}
use Rattle.ball_model.specs.Checkpoint.{early_bytes, kept_batches}
use Rattle.checkpoint.specs.Spooled.{PassesOn}
use Rattle.checkpoint.proofs.write.keep_early.Given as goal

abbrev pub invariant-loop-i : goal.invariant-loop-i
invariant-loop-i g l = PassesOn g.W.Write.contents g.W.CountedWrite.failed_calls g.W.CountedWrite.sure_calls g.W.CountedWrite.room l.initial.writer l.writer l.initial.spool l.spool (flat_map early_bytes (take l.i (kept_batches l.replica.early)))
