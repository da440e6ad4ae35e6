use Rattle.figures.proofs.SumLemmas.{fours, short, weight_fits}
use Rattle.figures.proofs.estimates.weight.Goals as goal

pub sum-requires-clause-short : goal.sum-requires-clause-short
sum-requires-clause-short c = short c.args.row.now c.args.log2m c.requires.high c.requires.width

pub sum-requires-clause-fours : goal.sum-requires-clause-fours
sum-requires-clause-fours c = fours c.args.row.now c.args.log2m c.requires.low c.requires.width

pub returns-clause-fits : goal.returns-clause-fits
returns-clause-fits c = weight_fits c.args.log2m c.args.row.now c.sum.result c.requires.width (short c.args.row.now c.args.log2m c.requires.high c.requires.width) c.sum.ensures
