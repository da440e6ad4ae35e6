use Rattle.std.proofs.Common.{◌++◌}
use Rattle.std.specs.List.{flat_map}
use Rattle.std.proofs.lemmas.Result.{on_ok_weaker, on_err_weaker}
use Rattle.ball_model.specs.Checkpoint.{early_bytes, kept_batches}
use Rattle.checkpoint.specs.Parts.{heard_bytes, count_bytes}
use Rattle.checkpoint.specs.Spooled.{waiting}
use Rattle.checkpoint.proofs.TextLemmas.{held_is}
use Rattle.ball_model.proofs.CheckLemmas.{on_err}
use Rattle.checkpoint.proofs.SpoolLemmas.{passes_then, passes_next, stops_before, stops_after, stops_front, stops_behind}
use Rattle.checkpoint.proofs.write.keep_held.Goals as goal

pub returns-in_err-keep_heard-clause-stops : goal.returns-in_err-keep_heard-clause-stops
returns-in_err-keep_heard-clause-stops g c =
    let v = c.args.replica.now in
    on_err c.from_residual.result (stops_front g.W.Write.contents g.W.CountedWrite.failed_calls g.W.CountedWrite.sure_calls g.W.CountedWrite.room _ _ (waiting c.args.spool.now) ((heard_bytes v ++ flat_map (λ row. row) v.accumulated) ++ count_bytes v) (flat_map early_bytes (kept_batches v.early)) _ (held_is v) (stops_before g.W.Write.contents g.W.CountedWrite.failed_calls g.W.CountedWrite.sure_calls g.W.CountedWrite.room _ _ (waiting c.args.spool.now) (heard_bytes v ++ flat_map (λ row. row) v.accumulated) (count_bytes v) (stops_before g.W.Write.contents g.W.CountedWrite.failed_calls g.W.CountedWrite.sure_calls g.W.CountedWrite.room _ _ (waiting c.args.spool.now) (heard_bytes v) (flat_map (λ row. row) v.accumulated) c.in_err-keep_heard.ensures.stops)))

pub returns-in_err-keep_accumulated-clause-stops : goal.returns-in_err-keep_accumulated-clause-stops
returns-in_err-keep_accumulated-clause-stops g c =
    let v = c.args.replica.now in
    on_err c.from_residual-in_err-keep_accumulated.result (stops_front g.W.Write.contents g.W.CountedWrite.failed_calls g.W.CountedWrite.sure_calls g.W.CountedWrite.room _ _ (waiting c.args.spool.now) ((heard_bytes v ++ flat_map (λ row. row) v.accumulated) ++ count_bytes v) (flat_map early_bytes (kept_batches v.early)) _ (held_is v) (stops_before g.W.Write.contents g.W.CountedWrite.failed_calls g.W.CountedWrite.sure_calls g.W.CountedWrite.room _ _ (waiting c.args.spool.now) (heard_bytes v ++ flat_map (λ row. row) v.accumulated) (count_bytes v) (stops_after g.W.Write.contents g.W.CountedWrite.failed_calls g.W.CountedWrite.sure_calls g.W.CountedWrite.room _ _ _ _ _ _ _ c.in_ok-keep_heard.ensures.done c.in_err-keep_accumulated.ensures.stops)))

pub returns-in_err-keep_count-clause-stops : goal.returns-in_err-keep_count-clause-stops
returns-in_err-keep_count-clause-stops g c =
    let v = c.args.replica.now in
    on_err c.from_residual-in_err-keep_count.result (stops_front g.W.Write.contents g.W.CountedWrite.failed_calls g.W.CountedWrite.sure_calls g.W.CountedWrite.room _ _ (waiting c.args.spool.now) ((heard_bytes v ++ flat_map (λ row. row) v.accumulated) ++ count_bytes v) (flat_map early_bytes (kept_batches v.early)) _ (held_is v) (stops_after g.W.Write.contents g.W.CountedWrite.failed_calls g.W.CountedWrite.sure_calls g.W.CountedWrite.room _ _ _ _ _ _ _ (passes_then g.W.Write.contents g.W.CountedWrite.failed_calls g.W.CountedWrite.sure_calls g.W.CountedWrite.room _ _ _ _ _ _ _ _ c.in_ok-keep_heard.ensures.done c.in_ok-keep_accumulated.ensures.done) c.in_err-keep_count.ensures.stops))

pub returns-clause-done : goal.returns-clause-done
returns-clause-done g c =
    let v = c.args.replica.now in
    on_ok_weaker c.keep_early.result (λ p. passes_next g.W.Write.contents g.W.CountedWrite.failed_calls g.W.CountedWrite.sure_calls g.W.CountedWrite.room _ _ _ _ _ _ _ _ _ (held_is v) (passes_then g.W.Write.contents g.W.CountedWrite.failed_calls g.W.CountedWrite.sure_calls g.W.CountedWrite.room _ _ _ _ _ _ _ _ (passes_then g.W.Write.contents g.W.CountedWrite.failed_calls g.W.CountedWrite.sure_calls g.W.CountedWrite.room _ _ _ _ _ _ _ _ c.in_ok-keep_heard.ensures.done c.in_ok-keep_accumulated.ensures.done) c.in_ok-keep_count.ensures.done) p) c.keep_early.ensures.done

pub returns-clause-stops : goal.returns-clause-stops
returns-clause-stops g c =
    let v = c.args.replica.now in
    on_err_weaker c.keep_early.result (λ p. stops_behind g.W.Write.contents g.W.CountedWrite.failed_calls g.W.CountedWrite.sure_calls g.W.CountedWrite.room _ _ _ _ _ _ _ _ (held_is v) (passes_then g.W.Write.contents g.W.CountedWrite.failed_calls g.W.CountedWrite.sure_calls g.W.CountedWrite.room _ _ _ _ _ _ _ _ (passes_then g.W.Write.contents g.W.CountedWrite.failed_calls g.W.CountedWrite.sure_calls g.W.CountedWrite.room _ _ _ _ _ _ _ _ c.in_ok-keep_heard.ensures.done c.in_ok-keep_accumulated.ensures.done) c.in_ok-keep_count.ensures.done) p) c.keep_early.ensures.stops
