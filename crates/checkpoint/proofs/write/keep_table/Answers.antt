use Rattle.std.proofs.Common.{refl}
use Rattle.std.proofs.lemmas.Result.{on_ok_weaker, on_err_weaker}
use Rattle.checkpoint.proofs.TextLemmas.{table_whole}
use Rattle.ball_model.proofs.CheckLemmas.{on_err}
use Rattle.checkpoint.proofs.SpoolLemmas.{passes_next, stops_front, stops_behind}
use Rattle.checkpoint.proofs.write.keep_table.Goals as goal

pub returns-in_err-keep_vertices-clause-stops : goal.returns-in_err-keep_vertices-clause-stops
returns-in_err-keep_vertices-clause-stops g c =
    on_err c.from_residual.result (stops_front g.W.Write.contents g.W.CountedWrite.failed_calls g.W.CountedWrite.sure_calls g.W.CountedWrite.room _ _ _ _ _ _ (table_whole c.args.replica.now c.args.replica.now.sums refl) c.in_err-keep_vertices.ensures.stops)

pub returns-clause-done : goal.returns-clause-done
returns-clause-done g c =
    on_ok_weaker c.keep_sums.result
    (λ p. passes_next g.W.Write.contents g.W.CountedWrite.failed_calls g.W.CountedWrite.sure_calls g.W.CountedWrite.room _ _ _ _ _ _ _ _ _ (table_whole c.args.replica.now c.sums.result.now c.sums.ensures.value) c.in_ok-keep_vertices.ensures.done p) c.keep_sums.ensures.done

pub returns-clause-stops : goal.returns-clause-stops
returns-clause-stops g c =
    on_err_weaker c.keep_sums.result
    (λ p. stops_behind g.W.Write.contents g.W.CountedWrite.failed_calls g.W.CountedWrite.sure_calls g.W.CountedWrite.room _ _ _ _ _ _ _ _ (table_whole c.args.replica.now c.sums.result.now c.sums.ensures.value) c.in_ok-keep_vertices.ensures.done p) c.keep_sums.ensures.stops
