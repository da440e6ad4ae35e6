use Rattle.std.proofs.Common.{◌∙◌, ap}
use Rattle.registers.specs.Raised.{raised_over}
use Rattle.registers.proofs.RaisedLemmas.{eight_rows}
use Rattle.registers.proofs.eight.raise_by_eight.Goals as goal

pub returns-clause-maximum : goal.returns-clause-maximum
returns-clause-maximum c =
    c.raise_by_all.ensures.maximum
    ∙ ap (raised_over c.args.row.now) (eight_rows c.args.rows.now.rows c.args.places.now _ _ _ _ _ _ _ _ c.requires.eight
    c.row.ensures.value c.row-2.ensures.value c.row-3.ensures.value c.row-4.ensures.value c.row-5.ensures.value c.row-6.ensures.value c.row-7.ensures.value c.row-8.ensures.value)
