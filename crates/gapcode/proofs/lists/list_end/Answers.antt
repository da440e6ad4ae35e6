use Rattle.gapcode.proofs.IndexLemmas.{list_ends}
use Rattle.gapcode.proofs.lists.list_end.Goals as goal

pub returns-in-Ok-clause-end : goal.returns-in-Ok-clause-end
returns-in-Ok-clause-end c = λ x read. list_ends c.args.bytes.now c.args.place c.in-Ok.end x c.requires.inside c.in-Ok.ensures.inside c.in-Ok.ensures.exact read
