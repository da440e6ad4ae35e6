use Rattle.std.proofs.Common.{ap, arith}
use Rattle.std.specs.List.{flat_map}
use Rattle.std.proofs.lemmas.List.{take_all}
use Rattle.std.specs.Int.{w128, to_be_bytes}
use Rattle.ball_model.proofs.CheckLemmas.{on_err}
use Rattle.checkpoint.proofs.SpoolLemmas.{passes_as, passes_none, stops_as, passes_piece, stops_piece}
use Rattle.checkpoint.proofs.write.keep_sums.Goals as goal

pub returns-in_err-keep-clause-stops : goal.returns-in_err-keep-clause-stops
returns-in_err-keep-clause-stops g c =
    on_err c.from_residual.result
    (stops_piece g.W.Write.contents g.W.CountedWrite.failed_calls g.W.CountedWrite.sure_calls g.W.CountedWrite.room (to_be_bytes w128) c.args.sums.now c.loop-sum.sum-index 0 _ _ _ _ _ (omega arith) c.loop-sum.invariant (stops_as g.W.Write.contents g.W.CountedWrite.failed_calls g.W.CountedWrite.sure_calls g.W.CountedWrite.room _ _ _ _ _ c.to_be_bytes.ensures c.in_err-keep.ensures.stops))

pub loop-sum-preserved : goal.loop-sum-preserved
loop-sum-preserved g c =
    passes_piece g.W.Write.contents g.W.CountedWrite.failed_calls g.W.CountedWrite.sure_calls g.W.CountedWrite.room (to_be_bytes w128) c.args.sums.now c.loop-sum.sum-index 0 _ _ _ _ _ _ (omega arith) c.loop-sum.invariant (passes_as g.W.Write.contents g.W.CountedWrite.failed_calls g.W.CountedWrite.sure_calls g.W.CountedWrite.room _ _ _ _ _ _ c.to_be_bytes.ensures c.in_ok-keep.ensures.done)

pub loop-sum-init : goal.loop-sum-init
loop-sum-init g c = passes_none g.W.Write.contents g.W.CountedWrite.failed_calls g.W.CountedWrite.sure_calls g.W.CountedWrite.room _ _

pub returns-clause-done : goal.returns-clause-done
returns-clause-done g c = passes_as g.W.Write.contents g.W.CountedWrite.failed_calls g.W.CountedWrite.sure_calls g.W.CountedWrite.room _ _ _ _ _ _ (ap (flat_map (to_be_bytes w128)) (take_all c.loop-sum.sum-index c.args.sums.now (omega arith))) c.loop-sum.invariant
