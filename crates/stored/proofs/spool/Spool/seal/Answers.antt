use Rattle.std.proofs.Common.{◌≡◌, ℕ, List, ◌++◌, subst}
use Rattle.std.proofs.lemmas.Result.{on_ok_weaker, on_err_weaker}
use Rattle.sha2.specs.Sha256.{sha256}
use Rattle.stored.specs.Writing.{Writes, StopsWriting}
use Rattle.stored.specs.Spooled.{waiting}
use Rattle.ball_model.proofs.CheckLemmas.{on_err}
use Rattle.stored.proofs.WriteLemmas.{stops_first, stops_then, writes_then}
use Rattle.stored.proofs.spool.Spool.seal.Goals as goal

pub returns-in_err-put_out-clause-stops : goal.returns-in_err-put_out-clause-stops
returns-in_err-put_out-clause-stops g c =
    on_err c.from_residual.result
    (λ m held. stops_first g.W.Write.contents g.W.CountedWrite.failed_calls g.W.CountedWrite.sure_calls g.W.CountedWrite.room _ _ _ _ c.in_err-put_out.ensures.stops)

pub returns-clause-done : goal.returns-clause-done
returns-clause-done g c =
    on_ok_weaker c.write_out.result
    (λ written m held. let digest : c.finalize-digest.result ≡ sha256 (m ++ waiting c.args.self) = c.finalize-digest.ensures (m ++ waiting c.args.self) (c.in_ok-put_out.ensures.digested m held) in
    writes_then g.W.Write.contents g.W.CountedWrite.failed_calls g.W.CountedWrite.sure_calls g.W.CountedWrite.room _ _ _ _ _ c.in_ok-put_out.ensures.done (subst (λ (l : List ℕ). Writes {W = g.row.W.Denot} g.W.Write.contents g.W.CountedWrite.failed_calls g.W.CountedWrite.sure_calls g.W.CountedWrite.room c.put_out.new.writer c.write_out.new.writer l) digest written)) c.write_out.ensures.done

pub returns-clause-stops : goal.returns-clause-stops
returns-clause-stops g c =
    on_err_weaker c.write_out.result
    (λ stops m held. let digest : c.finalize-digest.result ≡ sha256 (m ++ waiting c.args.self) = c.finalize-digest.ensures (m ++ waiting c.args.self) (c.in_ok-put_out.ensures.digested m held) in
    stops_then g.W.Write.contents g.W.CountedWrite.failed_calls g.W.CountedWrite.sure_calls g.W.CountedWrite.room _ _ _ _ _ c.in_ok-put_out.ensures.done (subst (λ (l : List ℕ). StopsWriting {W = g.row.W.Denot} g.W.Write.contents g.W.CountedWrite.failed_calls g.W.CountedWrite.sure_calls g.W.CountedWrite.room c.put_out.new.writer c.write_out.new.writer l) digest stops)) c.write_out.ensures.stops
