use Rattle.std.proofs.Common.{◌≢◌, ◌≤◌, ◌∙◌, ◌++◌, List, ℕ, map, length, ap, arith}
use Rattle.std.proofs.lemmas.List.{length-map}
use Rattle.csv.specs.Writing.{row_text}
use Rattle.csv.specs.declared.writer.WriterBuilder.{WriterBuilder}
use Rattle.csv.specs.declared.writer.QuoteStyle.TheVariants as style
use Rattle.report.specs.Rows.{text_in}
use Rattle.report.proofs.CsvLemmas.{row-of}
use Rattle.report.proofs.lines.put_row.Goals as goal

pub returns-clause-text : goal.returns-clause-text
returns-clause-text c =
    let fields = map (λ field. field.now) c.args.fields.now in
    let plain : c.args.rows.now.cfg.style ≢ style.NonNumeric = rw c.requires.row.setup (λ e. cc e) in
    let two : 2 ≤ length fields = simp length-map (omega (arith, c.requires.fields)) in
    c.in-Ok.ensures.bytes c.requires.row.fields c.requires.row.empty plain
    ∙ ap (λ (w : WriterBuilder). text_in c.args.rows.now ++ row_text w fields) c.requires.row.setup
    ∙ ap (λ (line : List ℕ). text_in c.args.rows.now ++ line) (row-of fields two)
