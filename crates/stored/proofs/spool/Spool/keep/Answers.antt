use Rattle.std.proofs.lemmas.Result.{on_ok_weaker, on_err_weaker}
use Rattle.ball_model.proofs.CheckLemmas.{on_err}
use Rattle.stored.proofs.WriteLemmas.{stops_first, stops_then}
use Rattle.stored.proofs.SpoolLemmas.{passes_all, passes_put, passes_waiting}
use Rattle.stored.proofs.spool.Spool.keep.Goals as goal

pub returns-in_err-put_out-clause-stops : goal.returns-in_err-put_out-clause-stops
returns-in_err-put_out-clause-stops g c =
    on_err c.from_residual.result (stops_first g.W.Write.contents g.W.CountedWrite.failed_calls g.W.CountedWrite.sure_calls g.W.CountedWrite.room _ _ _ _ c.in_err-put_out.ensures.stops)

pub returns-clause-done : goal.returns-clause-done
returns-clause-done g c =
    let first = c.in_ok-put_out.ensures in
    on_ok_weaker c.put.result
    (λ written. passes_all g.W.Write.contents g.W.CountedWrite.failed_calls g.W.CountedWrite.sure_calls g.W.CountedWrite.room _ _ _ c.args.self.now c.put_out.new.self _ c.args.bytes.now first.done first.digested first.empty written c.put.ensures.digested) c.put.ensures.done

pub returns-clause-stops : goal.returns-clause-stops
returns-clause-stops g c =
    on_err_weaker c.put.result
    (λ stops. stops_then g.W.Write.contents g.W.CountedWrite.failed_calls g.W.CountedWrite.sure_calls g.W.CountedWrite.room _ _ _ _ _ c.in_ok-put_out.ensures.done stops) c.put.ensures.stops

pub returns-then-bytes-self-clause-done : goal.returns-then-bytes-self-clause-done
returns-then-bytes-self-clause-done g c = passes_waiting g.W.Write.contents g.W.CountedWrite.failed_calls g.W.CountedWrite.sure_calls g.W.CountedWrite.room _ _ _ _ c.push.ensures.waiting c.push.ensures.hasher

pub returns-then-bytes-le-PIECE-clause-done : goal.returns-then-bytes-le-PIECE-clause-done
returns-then-bytes-le-PIECE-clause-done g c =
    let first = c.in_ok-put_out.ensures in
    passes_put g.W.Write.contents g.W.CountedWrite.failed_calls g.W.CountedWrite.sure_calls g.W.CountedWrite.room _ _ c.args.self.now c.put_out.new.self _ _ first.done first.digested first.empty c.push-then-bytes-le-PIECE.ensures.waiting c.push-then-bytes-le-PIECE.ensures.hasher
