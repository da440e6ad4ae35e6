use Rattle.std.proofs.Common.{◌≡◌, ◌∙◌, codes, if◌then◌else◌, refl, rules}
use Rattle.std.proofs.lemmas.Result.{on_ok_weaker}
use Rattle.std.specs.Fmt.{decimal}
use Rattle.ball_model.specs.Report.{end_line}
use Rattle.report.proofs.lines.put_end.Goals as goal

pub returns-clause-text : goal.returns-clause-text
unfolding end_line
returns-clause-text c =
    let name : c.as_slice.result.now ≡ codes "end" = search rules in
    let number : c.as_bytes.result.now ≡ decimal c.args.«end» = search rules in
    let why : c.as_bytes-2.result.now ≡ (if c.args.stable then codes "stable" else codes "limit") = search rules in
    on_ok_weaker c.put_row.result (λ h. h ∙ rw (name, number, why) refl) c.put_row.ensures.text
