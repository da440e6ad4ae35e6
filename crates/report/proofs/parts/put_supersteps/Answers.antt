use Rattle.std.proofs.Common.{slice_index, ◌∙◌, rules}
use Rattle.ball_model.specs.Report.{superstep_line}
use Rattle.report.specs.Rows.{text_in}
use Rattle.report.proofs.TextLemmas.{line_more}
use Rattle.report.proofs.parts.put_supersteps.Goals as goal

pub loop-i-preserved : goal.loop-i-preserved
loop-i-preserved c = record {
  row = c.in_ok-put_superstep.ensures.row;
  text = c.in_ok-put_superstep.ensures.text ∙ line_more (λ i. superstep_line i (slice_index c.args.totals.now i)) 0 c.loop-i.i (text_in c.args.rows.now) (text_in c.loop-i.rows) _ c.loop-i.invariant.text (search rules);
}
