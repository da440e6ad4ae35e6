use Rattle.std.proofs.lemmas.Result.{on_ok_weaker, on_err_weaker}
use Rattle.checkpoint.proofs.SpoolLemmas.{passes_as, passes_none, stops_as}
use Rattle.checkpoint.proofs.TextLemmas.{nth_some, nth_none}
use Rattle.checkpoint.proofs.write.keep_nth.Goals as goal

pub returns-in-Some-clause-done : goal.returns-in-Some-clause-done
returns-in-Some-clause-done g c =
    on_ok_weaker c.keep_batch.result
    (λ p. passes_as g.W.Write.contents g.W.CountedWrite.failed_calls g.W.CountedWrite.sure_calls g.W.CountedWrite.room _ _ _ _ _ _ (nth_some c.args.replica.now c.args.i c.in-Some.batch.now c.in-Some.ensures.value) p) c.keep_batch.ensures.done

pub returns-in-Some-clause-stops : goal.returns-in-Some-clause-stops
returns-in-Some-clause-stops g c =
    on_err_weaker c.keep_batch.result
    (λ p. stops_as g.W.Write.contents g.W.CountedWrite.failed_calls g.W.CountedWrite.sure_calls g.W.CountedWrite.room _ _ _ _ _ (nth_some c.args.replica.now c.args.i c.in-Some.batch.now c.in-Some.ensures.value) p) c.keep_batch.ensures.stops

pub returns-in-None-clause-done : goal.returns-in-None-clause-done
returns-in-None-clause-done g c =
    passes_as g.W.Write.contents g.W.CountedWrite.failed_calls g.W.CountedWrite.sure_calls g.W.CountedWrite.room _ _ _ _ _ _ (nth_none c.args.replica.now c.args.i c.in-None.ensures.value) (passes_none g.W.Write.contents g.W.CountedWrite.failed_calls g.W.CountedWrite.sure_calls g.W.CountedWrite.room _ _)
