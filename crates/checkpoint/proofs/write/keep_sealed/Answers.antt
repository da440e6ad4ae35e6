use Rattle.std.proofs.lemmas.Result.{on_ok_weaker, on_err_weaker}
use Rattle.ball_model.proofs.CheckLemmas.{on_err}
use Rattle.checkpoint.proofs.SpoolLemmas.{writes_sealed, stops_sealed, stops_unsealed}
use Rattle.ball_model.specs.Checkpoint.{checkpoint_bytes}
use Rattle.checkpoint.proofs.write.keep_sealed.Goals as goal

pub returns-in_err-keep_replica-clause-stops : goal.returns-in_err-keep_replica-clause-stops
unfolding checkpoint_bytes
returns-in_err-keep_replica-clause-stops g c =
    on_err c.from_residual.result (stops_unsealed g.W.Write.contents g.W.CountedWrite.failed_calls g.W.CountedWrite.sure_calls g.W.CountedWrite.room _ _ c.new-spool.result _ c.new-spool.ensures.empty c.in_err-keep_replica.ensures.stops)

pub returns-clause-done : goal.returns-clause-done
unfolding checkpoint_bytes
returns-clause-done g c =
    on_ok_weaker c.seal.result
    (λ q. writes_sealed g.W.Write.contents g.W.CountedWrite.failed_calls g.W.CountedWrite.sure_calls g.W.CountedWrite.room _ _ _ c.new-spool.result c.keep_replica.new.spool _ c.new-spool.ensures.empty c.new-spool.ensures.hasher c.in_ok-keep_replica.ensures.done q) c.seal.ensures.done

pub returns-clause-stops : goal.returns-clause-stops
unfolding checkpoint_bytes
returns-clause-stops g c =
    on_err_weaker c.seal.result
    (λ q. stops_sealed g.W.Write.contents g.W.CountedWrite.failed_calls g.W.CountedWrite.sure_calls g.W.CountedWrite.room _ _ _ c.new-spool.result c.keep_replica.new.spool _ c.new-spool.ensures.empty c.new-spool.ensures.hasher c.in_ok-keep_replica.ensures.done q) c.seal.ensures.stops
