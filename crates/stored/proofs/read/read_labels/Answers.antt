use Rattle.std.proofs.lemmas.Result.{err_from_is_err_and}
use Rattle.graph.specs.Lines.{labels_in}
use Rattle.stored.specs.Reading.{labels_told, told}
use Rattle.stored.proofs.LabelLemmas.{labels_pass, lines_fail}
use Rattle.stored.proofs.ReadLemmas.{fails_first, tells_checked}
use Rattle.stored.proofs.read.read_labels.Goals as goal

pub returns-in_err-text-clause-fails : goal.returns-in_err-text-clause-fails
returns-in_err-text-clause-fails g c =
    let p = err_from_is_err_and c.from_residual.result c.from_residual.ensures.1 in
    rw (p.1, p.2) (fails_first (λ text. told (labels_told (labels_in c.args.header.now.vertices text))) c.in_err-text.ensures.fails)

pub returns-in_err-of_lines-clause-fails : goal.returns-in_err-of_lines-clause-fails
returns-in_err-of_lines-clause-fails g c =
    let p = err_from_is_err_and c.from_residual-in_err-of_lines.result c.from_residual-in_err-of_lines.ensures.1 in
    rw (p.1, p.2) (lines_fail c.args.header.now c.in_ok-text.text.items c.in_err-of_lines.field-0.0 c.in_err-of_lines.ensures.value c.in_ok-text.ensures.done)

pub returns-clause-done : goal.returns-clause-done
returns-clause-done g c =
    let n = c.args.header.now.vertices in
    let text = c.in_ok-text.text.items in
    let labels = c.in_ok-of_lines.field-0 in
    tells_checked (λ text. labels_told (labels_in n text)) text labels (labels_pass (labels_in n text) labels c.in_ok-of_lines.ensures.value) c.in_ok-text.ensures.done

pub returns-clause-many : goal.returns-clause-many
returns-clause-many g c = c.in_ok-of_lines.ensures.count
