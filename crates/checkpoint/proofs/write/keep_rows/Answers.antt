use Rattle.std.proofs.Common.{[], ◌<◌, ◌≤◌, length, ap, arith}
use Rattle.std.specs.List.{flat_map}
use Rattle.std.proofs.lemmas.List.{take_all}
use Rattle.ball_model.specs.Batches.{row_bytes}
use Rattle.ball_model.proofs.CheckLemmas.{on_err}
use Rattle.checkpoint.proofs.SpoolLemmas.{passes_as, passes_none, stops_as, passes_piece, stops_piece}
use Rattle.checkpoint.proofs.TextLemmas.{row_is}
use Rattle.checkpoint.proofs.write.keep_rows.Goals as goal

pub returns-in_err-keep_all-clause-stops : goal.returns-in_err-keep_all-clause-stops
returns-in_err-keep_all-clause-stops g c =
    let rows = c.args.batch.now.rows in
    let lt : c.loop-i.i < length rows = omega (arith, c.count-i-end.ensures.value) in
    let row = row_is rows c.loop-i.i c.id.result c.to_be_bytes.result c.registers.result.now lt c.id.ensures.value c.to_be_bytes.ensures c.registers.ensures.value in
    on_err c.from_residual.result
    (stops_piece g.W.Write.contents g.W.CountedWrite.failed_calls g.W.CountedWrite.sure_calls g.W.CountedWrite.room row_bytes rows c.loop-i.i (0, []) _ _ _ _ _ lt c.loop-i.invariant (stops_as g.W.Write.contents g.W.CountedWrite.failed_calls g.W.CountedWrite.sure_calls g.W.CountedWrite.room _ _ _ _ _ row c.in_err-keep_all.ensures.stops))

pub loop-i-preserved : goal.loop-i-preserved
loop-i-preserved g c =
    let rows = c.args.batch.now.rows in
    let lt : c.loop-i.i < length rows = omega (arith, c.count-i-end.ensures.value) in
    let row = row_is rows c.loop-i.i c.id.result c.to_be_bytes.result c.registers.result.now lt c.id.ensures.value c.to_be_bytes.ensures c.registers.ensures.value in
    passes_piece g.W.Write.contents g.W.CountedWrite.failed_calls g.W.CountedWrite.sure_calls g.W.CountedWrite.room row_bytes rows c.loop-i.i (0, []) _ _ _ _ _ _ lt c.loop-i.invariant (passes_as g.W.Write.contents g.W.CountedWrite.failed_calls g.W.CountedWrite.sure_calls g.W.CountedWrite.room _ _ _ _ _ _ row c.in_ok-keep_all.ensures.done)

pub loop-i-init : goal.loop-i-init
loop-i-init g c = passes_none g.W.Write.contents g.W.CountedWrite.failed_calls g.W.CountedWrite.sure_calls g.W.CountedWrite.room _ _

pub returns-clause-done : goal.returns-clause-done
returns-clause-done g c =
    let rows = c.args.batch.now.rows in
    let all : length rows ≤ c.loop-i.i = omega (arith, c.count-i-end.ensures.value) in
    passes_as g.W.Write.contents g.W.CountedWrite.failed_calls g.W.CountedWrite.sure_calls g.W.CountedWrite.room _ _ _ _ _ _ (ap (flat_map row_bytes) (take_all c.loop-i.i rows all)) c.loop-i.invariant
