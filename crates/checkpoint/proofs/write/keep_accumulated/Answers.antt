use Rattle.std.proofs.Common.{◌≡◌, ℕ, [], ◌<◌, ◌≤◌, ◌∙◌, length, get_or, ap, arith}
use Rattle.std.specs.List.{flat_map}
use Rattle.std.proofs.lemmas.List.{take_all}
use Rattle.ball_model.proofs.CheckLemmas.{on_err}
use Rattle.checkpoint.proofs.SpoolLemmas.{passes_as, passes_none, stops_as, passes_piece, stops_piece}
use Rattle.checkpoint.proofs.write.keep_accumulated.Goals as goal

pub returns-in_err-keep-clause-stops : goal.returns-in_err-keep-clause-stops
returns-in_err-keep-clause-stops g c =
    let v = c.args.replica.now in
    let s = c.size_of-i-end.ensures in
    let lt : c.loop-i.i < length v.accumulated = omega (arith, s.size, s.state.accumulated.count, s.state.count) in
    let row : c.accumulated.result.now ≡ get_or v.accumulated c.loop-i.i [] = c.accumulated.ensures.value ∙ ap (λ (i : ℕ). get_or v.accumulated i []) c.vertex.ensures.place in
    on_err c.from_residual.result
    (stops_piece g.W.Write.contents g.W.CountedWrite.failed_calls g.W.CountedWrite.sure_calls g.W.CountedWrite.room (λ row. row) v.accumulated c.loop-i.i [] _ _ _ _ _ lt c.loop-i.invariant (stops_as g.W.Write.contents g.W.CountedWrite.failed_calls g.W.CountedWrite.sure_calls g.W.CountedWrite.room _ _ _ _ _ row c.in_err-keep.ensures.stops))

pub loop-i-preserved : goal.loop-i-preserved
loop-i-preserved g c =
    let v = c.args.replica.now in
    let s = c.size_of-i-end.ensures in
    let lt : c.loop-i.i < length v.accumulated = omega (arith, s.size, s.state.accumulated.count, s.state.count) in
    let row : c.accumulated.result.now ≡ get_or v.accumulated c.loop-i.i [] = c.accumulated.ensures.value ∙ ap (λ (i : ℕ). get_or v.accumulated i []) c.vertex.ensures.place in
    passes_piece g.W.Write.contents g.W.CountedWrite.failed_calls g.W.CountedWrite.sure_calls g.W.CountedWrite.room (λ row. row) v.accumulated c.loop-i.i [] _ _ _ _ _ _ lt c.loop-i.invariant (passes_as g.W.Write.contents g.W.CountedWrite.failed_calls g.W.CountedWrite.sure_calls g.W.CountedWrite.room _ _ _ _ _ _ row c.in_ok-keep.ensures.done)

pub loop-i-init : goal.loop-i-init
loop-i-init g c = passes_none g.W.Write.contents g.W.CountedWrite.failed_calls g.W.CountedWrite.sure_calls g.W.CountedWrite.room _ _

pub returns-clause-done : goal.returns-clause-done
returns-clause-done g c =
    let v = c.args.replica.now in
    let s = c.size_of-i-end.ensures in
    let all : length v.accumulated ≤ c.loop-i.i = omega (arith, s.size, s.state.accumulated.count, s.state.count) in
    passes_as g.W.Write.contents g.W.CountedWrite.failed_calls g.W.CountedWrite.sure_calls g.W.CountedWrite.room _ _ _ _ _ _ (ap (flat_map (λ row. row)) (take_all c.loop-i.i v.accumulated all)) c.loop-i.invariant
