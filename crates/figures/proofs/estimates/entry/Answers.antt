use Rattle.std.proofs.Common.{rules}
use Rattle.figures.proofs.SumLemmas.{entry_at, entry_few}
use Rattle.figures.proofs.estimates.entry.Goals as goal

pub returns-clause-value : goal.returns-clause-value
returns-clause-value c = entry_at c.from.result c.args.register (search rules) c.requires

pub returns-clause-few : goal.returns-clause-few
returns-clause-few c = rw (returns-clause-value c) (entry_few c.args.register)
