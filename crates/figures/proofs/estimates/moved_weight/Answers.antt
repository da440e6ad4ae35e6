use Rattle.std.proofs.Common.{arith}
use Rattle.figures.proofs.SumLemmas.{fours, pieces, short, weight_fits}
use Rattle.figures.proofs.estimates.moved_weight.Goals as goal

pub sum-requires-clause-short : goal.sum-requires-clause-short
sum-requires-clause-short c = short c.args.new.now c.args.log2m c.requires.high c.requires.new_width

pub sum-requires-clause-fours : goal.sum-requires-clause-fours
sum-requires-clause-fours c = fours c.args.new.now c.args.log2m c.requires.low c.requires.new_width

pub returns-then-log2m-le5-clause-fits : goal.returns-then-log2m-le5-clause-fits
returns-then-log2m-le5-clause-fits c = weight_fits c.args.log2m c.args.new.now c.sum.result c.requires.new_width (short c.args.new.now c.args.log2m c.requires.high c.requires.new_width) c.sum.ensures

pub few_differing-requires-clause-short : goal.few_differing-requires-clause-short
few_differing-requires-clause-short c = short c.args.old.now c.args.log2m c.requires.high c.requires.old_width

pub moved_by_pieces-requires-clause-short : goal.moved_by_pieces-requires-clause-short
moved_by_pieces-requires-clause-short c = short c.args.old.now c.args.log2m c.requires.high c.requires.old_width

pub moved_by_pieces-requires-clause-pieces : goal.moved_by_pieces-requires-clause-pieces
moved_by_pieces-requires-clause-pieces c = pieces c.args.old.now c.args.log2m (omega arith) c.requires.old_width

pub returns-in-Some-clause-fits : goal.returns-in-Some-clause-fits
returns-in-Some-clause-fits c = weight_fits c.args.log2m c.args.new.now c.moved_by_pieces.result c.requires.new_width (short c.args.new.now c.args.log2m c.requires.high c.requires.new_width) c.moved_by_pieces.ensures

pub sum-requires-in-None-clause-short : goal.sum-requires-in-None-clause-short
sum-requires-in-None-clause-short c = short c.args.new.now c.args.log2m c.requires.high c.requires.new_width

pub sum-requires-in-None-clause-fours : goal.sum-requires-in-None-clause-fours
sum-requires-in-None-clause-fours c = fours c.args.new.now c.args.log2m c.requires.low c.requires.new_width

pub returns-in-None-clause-fits : goal.returns-in-None-clause-fits
returns-in-None-clause-fits c = weight_fits c.args.log2m c.args.new.now c.sum-in-None.result c.requires.new_width (short c.args.new.now c.args.log2m c.requires.high c.requires.new_width) c.sum-in-None.ensures
