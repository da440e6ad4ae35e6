use Rattle.std.proofs.Common.{arith}
use Rattle.std.proofs.lemmas.Result.{on_ok_weaker, on_err_weaker}
use Rattle.checkpoint.proofs.SpoolLemmas.{passes_as, stops_as}
use Rattle.checkpoint.proofs.TextLemmas.{count_is, early_few}
use Rattle.checkpoint.proofs.write.keep_count.Goals as goal

pub overflow_cast-count : goal.overflow_cast-count
overflow_cast-count g c =
    let v = c.args.replica.now in
    let s = c.limits.ensures.state in
    omega (arith, c.early_count-count.ensures.value, early_few v.part.plan.parts v.early s.early.table, s.part.plan.parts_to)

pub returns-clause-done : goal.returns-clause-done
returns-clause-done g c =
    on_ok_weaker c.keep.result
    (λ p. passes_as g.W.Write.contents g.W.CountedWrite.failed_calls g.W.CountedWrite.sure_calls g.W.CountedWrite.room _ _ _ _ _ _ (count_is c.args.replica.now c.early_count-count.result c.to_be_bytes.result c.early_count-count.ensures.value c.to_be_bytes.ensures) p) c.keep.ensures.done

pub returns-clause-stops : goal.returns-clause-stops
returns-clause-stops g c =
    on_err_weaker c.keep.result
    (λ p. stops_as g.W.Write.contents g.W.CountedWrite.failed_calls g.W.CountedWrite.sure_calls g.W.CountedWrite.room _ _ _ _ _ (count_is c.args.replica.now c.early_count-count.result c.to_be_bytes.result c.early_count-count.ensures.value c.to_be_bytes.ensures) p) c.keep.ensures.stops
