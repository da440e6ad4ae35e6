use Rattle.std.proofs.Common.{◌≤◌, suc, drop, length, ap, arith}
use Rattle.std.proofs.lemmas.List.{take_all}
use Rattle.std.specs.List.{flat_map}
use Rattle.ball_model.specs.Checkpoint.{early_bytes, kept_batches}
use Rattle.ball_model.proofs.CheckLemmas.{on_err}
use Rattle.checkpoint.proofs.SpoolLemmas.{passes_as, passes_none, passes_next, stops_next}
use Rattle.checkpoint.proofs.TextLemmas.{early_more, early_split}
use Rattle.checkpoint.proofs.write.keep_early.Goals as goal

pub returns-in_err-keep_nth-clause-stops : goal.returns-in_err-keep_nth-clause-stops
returns-in_err-keep_nth-clause-stops g c =
    let v = c.args.replica.now in
    on_err c.from_residual.result
    (stops_next g.W.Write.contents g.W.CountedWrite.failed_calls g.W.CountedWrite.sure_calls g.W.CountedWrite.room _ _ _ _ _ _ _ (flat_map early_bytes (drop (suc c.loop-i.i) (kept_batches v.early))) _ (early_split v c.loop-i.i) c.loop-i.invariant c.in_err-keep_nth.ensures.stops)

pub loop-i-preserved : goal.loop-i-preserved
loop-i-preserved g c =
    let v = c.args.replica.now in
    passes_next g.W.Write.contents g.W.CountedWrite.failed_calls g.W.CountedWrite.sure_calls g.W.CountedWrite.room _ _ _ _ _ _ _ _ _ (early_more v c.loop-i.i) c.loop-i.invariant c.in_ok-keep_nth.ensures.done

pub returns-clause-done : goal.returns-clause-done
returns-clause-done g c =
    let v = c.args.replica.now in
    let all : length (kept_batches v.early) ≤ c.loop-i.i = omega (arith, c.early_count-i-end.ensures.value) in
    passes_as g.W.Write.contents g.W.CountedWrite.failed_calls g.W.CountedWrite.sure_calls g.W.CountedWrite.room _ _ _ _ _ _ (ap (flat_map early_bytes) (take_all c.loop-i.i (kept_batches v.early) all)) c.loop-i.invariant

pub loop-i-init : goal.loop-i-init
loop-i-init g c = passes_none g.W.Write.contents g.W.CountedWrite.failed_calls g.W.CountedWrite.sure_calls g.W.CountedWrite.room _ _
