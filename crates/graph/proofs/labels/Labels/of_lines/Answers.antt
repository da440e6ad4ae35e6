use Rattle.std.proofs.Common.{◌≡◌, ◌∙◌, ℕ, List, [], ap, arith, length, sym}
use Rattle.std.specs.Prelude.{Some, option_map}
use Rattle.std.proofs.lemmas.Result.{err_from_is_err_and}
use Rattle.graph.specs.Lines.{lines_after}
use Rattle.graph.proofs.TextLemmas.{many-these, some-lines}
use Rattle.graph.proofs.labels.Labels.of_lines.Goals as goal

pub returns-in_err-starts-clause-value : goal.returns-in_err-starts-clause-value
returns-in_err-starts-clause-value c =
    let p = err_from_is_err_and c.from_residual.result c.from_residual.ensures.1 in
    let lines = lines_after [] c.args.text.items in
    let found : c.in-Some.found ≡ c.args.count = omega (arith, c.if-found-count.false) in
    let many : Some c.args.count ≡ option_map (length {A = List ℕ}) lines =
    ap Some (sym found) ∙ sym c.in-Some.is ∙ c.count_lines.ensures ∙ ap (λ (text : List ℕ). option_map (length {A = List ℕ}) (lines_after [] text)) c.deref.ensures.value in
    let some = some-lines lines c.args.count many in
    rw (p.1, p.2) (some.0, many-these lines c.args.count many ∙ some.1)
