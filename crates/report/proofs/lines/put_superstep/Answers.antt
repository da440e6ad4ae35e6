use Rattle.std.proofs.Common.{◌≡◌, ◌∙◌, codes, refl, rules}
use Rattle.std.proofs.lemmas.Result.{on_ok_weaker}
use Rattle.std.specs.Fmt.{decimal}
use Rattle.ball_model.specs.Figures.{fixed6_of}
use Rattle.ball_model.specs.Report.{superstep_line}
use Rattle.report.proofs.lines.put_superstep.Goals as goal

pub returns-clause-text : goal.returns-clause-text
unfolding superstep_line
returns-clause-text c =
    let name : c.as_slice.result.now ≡ codes "superstep" = search rules in
    let number : c.as_bytes.result.now ≡ decimal c.args.i = search rules in
    let figure : c.as_bytes-2.result.now ≡ fixed6_of c.args.total = search rules in
    on_ok_weaker c.put_row.result (λ h. h ∙ rw (name, number, figure) refl) c.put_row.ensures.text
