use Rattle.std.proofs.lemmas.Result.{err_from_is_err_and}
use Rattle.report.specs.Parts.{head_text, totals_in}
use Rattle.report.proofs.FrontLemmas.{head_some}
use Rattle.report.proofs.WrittenLemmas.{nothing_of}
use Rattle.report.proofs.write.put_top.Goals as goal

pub returns-in_err-head_of : goal.returns-in_err-head_of
returns-in_err-head_of g c =
    let totals = totals_in c.args.replicas.now c.args.end in
    let p = err_from_is_err_and c.from_residual.result c.from_residual.ensures.1 in
    rw (p.1, p.2) (nothing_of g.W.Write.contents g.W.CountedWrite.failed_calls c.args.writer.now (head_text totals c.args.end c.args.stable) (head_some totals c.args.end c.args.stable))
