use Rattle.std.proofs.Common.{◌∙◌, sym, ap, ◌∷◌}
use Rattle.std.specs.Str.Lines.{lines}
use Rattle.world.proofs.ScriptLemmas.{cut-shorter, lines-cut, lines-uncut, none-left}
use Rattle.world.proofs.script.next_line.Goals as goal

pub returns-in-Some-clause-value : goal.returns-in-Some-clause-value
returns-in-Some-clause-value c = lines-cut c.args.text.now c.in-Some.line.now c.in-Some.rest.now (sym c.in-Some.ensures) ∙ ap (λ l. l ∷ lines c.in-Some.rest.now) (sym c.without_return.ensures)

pub returns-in-Some-clause-shorter : goal.returns-in-Some-clause-shorter
returns-in-Some-clause-shorter c = cut-shorter 10 c.args.text.now c.in-Some.line.now c.in-Some.rest.now (sym c.in-Some.ensures)

pub returns-in-None-clause-value : goal.returns-in-None-clause-value
returns-in-None-clause-value c = lines-uncut c.args.text.now (sym c.in-None.ensures) c.requires ∙ none-left c.args.text.now
