use Rattle.std.proofs.Common.{◌++◌, refl}
use Rattle.std.proofs.lemmas.Result.{on_ok_weaker, on_err_weaker}
use Rattle.ball_model.specs.Checkpoint.{front_bytes, table_bytes, held_bytes}
use Rattle.checkpoint.specs.Spooled.{waiting}
use Rattle.ball_model.proofs.CheckLemmas.{on_err}
use Rattle.checkpoint.proofs.SpoolLemmas.{passes_then, passes_next, stops_before, stops_after, stops_front, stops_behind}
use Rattle.checkpoint.proofs.write.keep_replica.Goals as goal

pub returns-in_err-keep_front-clause-stops : goal.returns-in_err-keep_front-clause-stops
returns-in_err-keep_front-clause-stops g c =
    let v = c.args.replica.now in
    on_err c.from_residual.result (stops_front g.W.Write.contents g.W.CountedWrite.failed_calls g.W.CountedWrite.sure_calls g.W.CountedWrite.room _ _ (waiting c.args.spool.now) ((front_bytes 2 v) ++ (table_bytes v)) (held_bytes v) _ refl (stops_before g.W.Write.contents g.W.CountedWrite.failed_calls g.W.CountedWrite.sure_calls g.W.CountedWrite.room _ _ (waiting c.args.spool.now) (front_bytes 2 v) (table_bytes v) c.in_err-keep_front.ensures.stops))

pub returns-in_err-keep_table-clause-stops : goal.returns-in_err-keep_table-clause-stops
returns-in_err-keep_table-clause-stops g c =
    let v = c.args.replica.now in
    on_err c.from_residual-in_err-keep_table.result (stops_front g.W.Write.contents g.W.CountedWrite.failed_calls g.W.CountedWrite.sure_calls g.W.CountedWrite.room _ _ (waiting c.args.spool.now) ((front_bytes 2 v) ++ (table_bytes v)) (held_bytes v) _ refl (stops_after g.W.Write.contents g.W.CountedWrite.failed_calls g.W.CountedWrite.sure_calls g.W.CountedWrite.room _ _ _ _ _ _ _ c.in_ok-keep_front.ensures.done c.in_err-keep_table.ensures.stops))

pub returns-clause-done : goal.returns-clause-done
returns-clause-done g c =
    let v = c.args.replica.now in
    on_ok_weaker c.keep_held.result (λ p. passes_next g.W.Write.contents g.W.CountedWrite.failed_calls g.W.CountedWrite.sure_calls g.W.CountedWrite.room _ _ _ _ _ _ _ _ _ refl (passes_then g.W.Write.contents g.W.CountedWrite.failed_calls g.W.CountedWrite.sure_calls g.W.CountedWrite.room _ _ _ _ _ _ _ _ c.in_ok-keep_front.ensures.done c.in_ok-keep_table.ensures.done) p) c.keep_held.ensures.done

pub returns-clause-stops : goal.returns-clause-stops
returns-clause-stops g c =
    let v = c.args.replica.now in
    on_err_weaker c.keep_held.result (λ p. stops_behind g.W.Write.contents g.W.CountedWrite.failed_calls g.W.CountedWrite.sure_calls g.W.CountedWrite.room _ _ _ _ _ _ _ _ refl (passes_then g.W.Write.contents g.W.CountedWrite.failed_calls g.W.CountedWrite.sure_calls g.W.CountedWrite.room _ _ _ _ _ _ _ _ c.in_ok-keep_front.ensures.done c.in_ok-keep_table.ensures.done) p) c.keep_held.ensures.stops
