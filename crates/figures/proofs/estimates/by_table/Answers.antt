use Rattle.figures.proofs.estimates.by_table.Goals as goal

pub returns-clause-value : goal.returns-clause-value
returns-clause-value c = c.by_weight.ensures.value c.args.row.now c.requires.width c.weight.ensures.value
