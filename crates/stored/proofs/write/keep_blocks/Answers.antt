use Rattle.std.proofs.Common.{◌≡◌, ◌<◌, ◌-◌, List, ℕ, length, take, drop, refl, sym, subst, arith}
use Rattle.std.proofs.lemmas.List.{length-drop, length-take-le}
use Rattle.std.proofs.lemmas.Result.{err_from_is_err_and}
use Rattle.gapcode.specs.Bits.{AreBytesOf}
use Rattle.stored.specs.Stored.{code_of, stored_of}
use Rattle.stored.proofs.HaltLemmas.{halts_memory, halts_of, written_all, written_more, written_none, written_stops}
use Rattle.stored.proofs.StoredLemmas.{preds_many}
use Rattle.stored.proofs.write.keep_blocks.Goals as goal

pub loop-from-init : goal.loop-from-init
loop-from-init g c = written_none g.W.Write.contents g.W.CountedWrite.failed_calls g.W.CountedWrite.sure_calls g.W.CountedWrite.room _ _ _

pub returns-in_err-block-clause-halts : goal.returns-in_err-block-clause-halts
returns-in_err-block-clause-halts g c =
    let net = c.args.graph.now in
    let p = err_from_is_err_and c.from_residual.result c.from_residual.ensures.1 in
    let lt : c.loop-from.from < length (stored_of net).preds = omega (arith, c.loop-from-test.true, c.vertices.ensures.count, preds_many net) in
    rw (p.1) (halts_memory g.W.Write.contents g.W.CountedWrite.failed_calls g.W.CountedWrite.sure_calls g.W.CountedWrite.room _ _ _ _ _ c.loop-from.from p.0 p.2 lt c.loop-from.invariant)

pub returns-in_err-keep_block-clause-halts : goal.returns-in_err-keep_block-clause-halts
returns-in_err-keep_block-clause-halts g c =
    let lists = (stored_of c.args.graph.now).preds in
    let from = c.loop-from.from in
    let to = c.in_ok-block.block.to in
    let ends = c.in_ok-block.ensures.ends in
    let block = take (to - from) (drop from lists) in
    let many : length block ≡ to - from = length-take-le (to - from) (drop from lists) (omega (arith, length-drop from lists, ends.within)) in
    let spelled = subst (λ (l : List ℕ). AreBytesOf (code_of block) l) (sym c.deref.ensures.value) (c.in_ok-block.ensures.code block refl) in
    let p = err_from_is_err_and c.from_residual-in_err-keep_block.result c.from_residual-in_err-keep_block.ensures.1 in
    rw (p.1) (halts_of g.W.Write.contents g.W.CountedWrite.failed_calls g.W.CountedWrite.sure_calls g.W.CountedWrite.room _ _ _ p.0 p.2 (written_stops g.W.Write.contents g.W.CountedWrite.failed_calls g.W.CountedWrite.sure_calls g.W.CountedWrite.room _ _ _ _ _ lists from to c.loop-from.invariant ends (c.in_err-keep_block.ensures.stops block many spelled)))

pub loop-from-preserved : goal.loop-from-preserved
loop-from-preserved g c =
    let lists = (stored_of c.args.graph.now).preds in
    let from = c.loop-from.from in
    let to = c.in_ok-block.block.to in
    let ends = c.in_ok-block.ensures.ends in
    let block = take (to - from) (drop from lists) in
    let many : length block ≡ to - from = length-take-le (to - from) (drop from lists) (omega (arith, length-drop from lists, ends.within)) in
    let spelled = subst (λ (l : List ℕ). AreBytesOf (code_of block) l) (sym c.deref.ensures.value) (c.in_ok-block.ensures.code block refl) in
    written_more g.W.Write.contents g.W.CountedWrite.failed_calls g.W.CountedWrite.sure_calls g.W.CountedWrite.room _ _ _ _ _ _ lists from to c.loop-from.invariant ends (c.in_ok-keep_block.ensures.done block many spelled)

pub returns-clause-done : goal.returns-clause-done
returns-clause-done g c =
    let net = c.args.graph.now in
    written_all g.W.Write.contents g.W.CountedWrite.failed_calls g.W.CountedWrite.sure_calls g.W.CountedWrite.room _ _ _ _ _ c.loop-from.from (omega (arith, c.loop-from-test.false, c.vertices.ensures.count, preds_many net)) c.loop-from.invariant
