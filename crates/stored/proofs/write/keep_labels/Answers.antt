use Rattle.std.proofs.Common.{◌<◌, ◌≤◌, length, ap, arith}
use Rattle.std.proofs.lemmas.List.{take_all}
use Rattle.ball_model.proofs.CheckLemmas.{on_err}
use Rattle.stored.specs.Stored.{label_line, label_lines}
use Rattle.stored.proofs.SpoolLemmas.{passes_as, passes_none, passes_piece, stops_as, stops_piece}
use Rattle.stored.proofs.TextLemmas.{line_is}
use Rattle.stored.proofs.write.keep_labels.Goals as goal

pub loop-v-init : goal.loop-v-init
loop-v-init g c = passes_none g.W.Write.contents g.W.CountedWrite.failed_calls g.W.CountedWrite.sure_calls g.W.CountedWrite.room _ _

pub returns-in_err-keep_all-clause-stops : goal.returns-in_err-keep_all-clause-stops
returns-in_err-keep_all-clause-stops g c =
    let labels = c.args.graph.now.labels in
    let lt : c.loop-v.v < length labels = omega (arith, c.vertices-v-end.ensures.count, c.vertices-v-end.ensures.labels) in
    on_err c.from_residual.result
    (stops_piece g.W.Write.contents g.W.CountedWrite.failed_calls g.W.CountedWrite.sure_calls g.W.CountedWrite.room label_line labels c.loop-v.v _ _ _ _ _ _ lt c.loop-v.invariant (stops_as g.W.Write.contents g.W.CountedWrite.failed_calls g.W.CountedWrite.sure_calls g.W.CountedWrite.room _ _ _ _ _ (line_is _ _ c.label.ensures) c.in_err-keep_all.ensures.stops))

pub loop-v-preserved : goal.loop-v-preserved
loop-v-preserved g c =
    let labels = c.args.graph.now.labels in
    let lt : c.loop-v.v < length labels = omega (arith, c.vertices-v-end.ensures.count, c.vertices-v-end.ensures.labels) in
    passes_piece g.W.Write.contents g.W.CountedWrite.failed_calls g.W.CountedWrite.sure_calls g.W.CountedWrite.room label_line labels c.loop-v.v _ _ _ _ _ _ _ lt c.loop-v.invariant (passes_as g.W.Write.contents g.W.CountedWrite.failed_calls g.W.CountedWrite.sure_calls g.W.CountedWrite.room _ _ _ _ _ _ (line_is _ _ c.label.ensures) c.in_ok-keep_all.ensures.done)

pub returns-clause-done : goal.returns-clause-done
returns-clause-done g c =
    let labels = c.args.graph.now.labels in
    let all : length labels ≤ c.loop-v.v = omega (arith, c.vertices-v-end.ensures.count, c.vertices-v-end.ensures.labels) in
    passes_as g.W.Write.contents g.W.CountedWrite.failed_calls g.W.CountedWrite.sure_calls g.W.CountedWrite.room _ _ _ _ _ _ (ap label_lines (take_all c.loop-v.v labels all)) c.loop-v.invariant
