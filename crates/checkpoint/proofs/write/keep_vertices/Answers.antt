use Rattle.std.proofs.Common.{◌<◌, ◌≤◌, suc, length, drop, ap, arith}
use Rattle.std.specs.List.{flat_map, range_with_len}
use Rattle.std.proofs.lemmas.List.{take_all}
use Rattle.std.proofs.lemmas.List.FromFn.{length-range_with_len}
use Rattle.ball_model.specs.Checkpoint.{vertex_bytes}
use Rattle.ball_model.proofs.CheckLemmas.{on_err}
use Rattle.checkpoint.proofs.SpoolLemmas.{passes_as, passes_none, passes_next, stops_next}
use Rattle.checkpoint.proofs.TextLemmas.{range_more, range_pieces}
use Rattle.checkpoint.proofs.write.keep_vertices.Goals as goal

pub returns-in_err-keep_vertex-clause-stops : goal.returns-in_err-keep_vertex-clause-stops
returns-in_err-keep_vertex-clause-stops g c =
    let v = c.args.replica.now in
    let lt : c.loop-i.i < length v.part.preds = omega arith in
    on_err c.from_residual.result
    (stops_next g.W.Write.contents g.W.CountedWrite.failed_calls g.W.CountedWrite.sure_calls g.W.CountedWrite.room _ _ _ _ _ _ _ (flat_map (vertex_bytes v) (drop (suc c.loop-i.i) (range_with_len 0 (length v.part.preds)))) _ (range_pieces (vertex_bytes v) (length v.part.preds) c.loop-i.i lt) c.loop-i.invariant c.in_err-keep_vertex.ensures.stops)

pub loop-i-preserved : goal.loop-i-preserved
loop-i-preserved g c =
    let v = c.args.replica.now in
    let lt : c.loop-i.i < length v.part.preds = omega arith in
    passes_next g.W.Write.contents g.W.CountedWrite.failed_calls g.W.CountedWrite.sure_calls g.W.CountedWrite.room _ _ _ _ _ _ _ _ _ (range_more (vertex_bytes v) (length v.part.preds) c.loop-i.i lt) c.loop-i.invariant c.in_ok-keep_vertex.ensures.done

pub returns-clause-done : goal.returns-clause-done
returns-clause-done g c =
    let v = c.args.replica.now in
    let all : length (range_with_len 0 (length v.part.preds)) ≤ c.loop-i.i = omega (arith, c.size_of-i-end.ensures.size, length-range_with_len 0 (length v.part.preds)) in
    passes_as g.W.Write.contents g.W.CountedWrite.failed_calls g.W.CountedWrite.sure_calls g.W.CountedWrite.room _ _ _ _ _ _ (ap (flat_map (vertex_bytes v)) (take_all c.loop-i.i (range_with_len 0 (length v.part.preds)) all)) c.loop-i.invariant

pub loop-i-init : goal.loop-i-init
loop-i-init g c = passes_none g.W.Write.contents g.W.CountedWrite.failed_calls g.W.CountedWrite.sure_calls g.W.CountedWrite.room _ _
