use Rattle.std.proofs.lemmas.Result.{on_ok_weaker, on_err_weaker}
use Rattle.checkpoint.proofs.SpoolLemmas.{passes_as, stops_as}
use Rattle.checkpoint.proofs.TextLemmas.{mark_is, heard_is}
use Rattle.checkpoint.proofs.write.keep_heard.Goals as goal

pub returns-clause-done : goal.returns-clause-done
returns-clause-done g c =
    let text = (heard_is c.args.replica.now c.bits-heard.result c.from-change.result c.to_be_bytes.result c.heard.result c.heard_change.result c.limits.ensures.state.heard.count c.heard.ensures.value c.bits-heard.ensures.value c.to_be_bytes.ensures c.heard_change.ensures.value (mark_is c.from-change.result c.heard_change.result c.from-change.ensures)) in
    on_ok_weaker c.keep_all.result (λ p. passes_as g.W.Write.contents g.W.CountedWrite.failed_calls g.W.CountedWrite.sure_calls g.W.CountedWrite.room _ _ _ _ _ _ text p) c.keep_all.ensures.done

pub returns-clause-stops : goal.returns-clause-stops
returns-clause-stops g c =
    let text = (heard_is c.args.replica.now c.bits-heard.result c.from-change.result c.to_be_bytes.result c.heard.result c.heard_change.result c.limits.ensures.state.heard.count c.heard.ensures.value c.bits-heard.ensures.value c.to_be_bytes.ensures c.heard_change.ensures.value (mark_is c.from-change.result c.heard_change.result c.from-change.ensures)) in
    on_err_weaker c.keep_all.result (λ p. stops_as g.W.Write.contents g.W.CountedWrite.failed_calls g.W.CountedWrite.sure_calls g.W.CountedWrite.room _ _ _ _ _ text p) c.keep_all.ensures.stops
