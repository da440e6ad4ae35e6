use Rattle.std.proofs.lemmas.Result.{on_ok_weaker, on_err_weaker}
use Rattle.checkpoint.proofs.TextLemmas.{batch_is}
use Rattle.ball_model.proofs.CheckLemmas.{on_err}
use Rattle.checkpoint.proofs.SpoolLemmas.{passes_next, stops_front, stops_behind}
use Rattle.checkpoint.proofs.write.keep_batch.Goals as goal

pub returns-in_err-keep_all-clause-stops : goal.returns-in_err-keep_all-clause-stops
returns-in_err-keep_all-clause-stops g c =
    on_err c.from_residual.result (stops_front g.W.Write.contents g.W.CountedWrite.failed_calls g.W.CountedWrite.sure_calls g.W.CountedWrite.room _ _ _ _ _ _ (batch_is c.args.batch.now c.length.result c.to_be_bytes.result c.header.result c.length.ensures.bytes c.to_be_bytes.ensures c.header.ensures) c.in_err-keep_all.ensures.stops)

pub returns-clause-done : goal.returns-clause-done
returns-clause-done g c =
    on_ok_weaker c.keep_rows.result
    (λ p. passes_next g.W.Write.contents g.W.CountedWrite.failed_calls g.W.CountedWrite.sure_calls g.W.CountedWrite.room _ _ _ _ _ _ _ _ _ (batch_is c.args.batch.now c.length.result c.to_be_bytes.result c.header.result c.length.ensures.bytes c.to_be_bytes.ensures c.header.ensures) c.in_ok-keep_all.ensures.done p) c.keep_rows.ensures.done

pub returns-clause-stops : goal.returns-clause-stops
returns-clause-stops g c =
    on_err_weaker c.keep_rows.result
    (λ p. stops_behind g.W.Write.contents g.W.CountedWrite.failed_calls g.W.CountedWrite.sure_calls g.W.CountedWrite.room _ _ _ _ _ _ _ _ (batch_is c.args.batch.now c.length.result c.to_be_bytes.result c.header.result c.length.ensures.bytes c.to_be_bytes.ensures c.header.ensures) c.in_ok-keep_all.ensures.done p) c.keep_rows.ensures.stops
