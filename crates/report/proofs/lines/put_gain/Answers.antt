use Rattle.std.proofs.Common.{◌≡◌, ◌∙◌, codes, refl, rules}
use Rattle.std.proofs.lemmas.Result.{on_ok_weaker}
use Rattle.ball_model.specs.Figures.{fixed6_of}
use Rattle.ball_model.specs.Report.{gain_line}
use Rattle.report.proofs.lines.put_gain.Goals as goal

pub returns-clause-text : goal.returns-clause-text
unfolding gain_line
returns-clause-text c =
    let name : c.as_slice.result.now ≡ codes "gain" = search rules in
    let figure : c.as_bytes.result.now ≡ fixed6_of c.args.gain = search rules in
    on_ok_weaker c.put_row.result (λ h. h ∙ rw (name, figure) refl) c.put_row.ensures.text
