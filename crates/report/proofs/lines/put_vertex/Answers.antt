use Rattle.std.proofs.Common.{◌≡◌, ◌∙◌, codes, refl, rules}
use Rattle.std.proofs.lemmas.Result.{on_ok_weaker}
use Rattle.std.specs.Fmt.{decimal}
use Rattle.ball_model.specs.Figures.{fixed6_of}
use Rattle.report.specs.Parts.{figures_line}
use Rattle.report.proofs.lines.put_vertex.Goals as goal

pub returns-clause-text : goal.returns-clause-text
unfolding figures_line
returns-clause-text c =
    let f = c.args.figures in
    let name : c.as_slice.result.now ≡ codes "vertex" = search rules in
    let estimate : c.as_bytes.result.now ≡ fixed6_of f.estimate = search rules in
    let harmonic : c.as_bytes-2.result.now ≡ fixed6_of f.harmonic = search rules in
    let close : c.as_bytes-3.result.now ≡ fixed6_of f.closeness = search rules in
    let index : c.as_bytes-4.result.now ≡ fixed6_of f.lin = search rules in
    let number : c.as_bytes-5.result.now ≡ decimal f.empty = search rules in
    on_ok_weaker c.put_row.result (λ h. h ∙ rw (name, estimate, harmonic, close, index, number) refl) c.put_row.ensures.text
