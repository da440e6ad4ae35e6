use Rattle.std.proofs.Common.{◌∙◌}
use Rattle.node.proofs.StepLemmas.{totals_answered}
use Rattle.node.proofs.serve.answer_totals.Goals as goal

pub returns-clause-done : goal.returns-clause-done
returns-clause-done g c = λ network body.
    totals_answered g.W.Write.contents g.W.CountedWrite.failed_calls network body c.args.replica.now c.sums.result.now c.deref.result.now c.args.writer.now c.write_lines.new.writer c.write_lines.result
    c.sums.ensures.stands (c.deref.ensures.value ∙ c.in_ok-text.ensures) c.write_lines.ensures
