use Rattle.std.proofs.Common.{refl}
use Rattle.stored.proofs.read.read_end.Goals as goal

pub returns-in-Ended-clause-end : goal.returns-in-Ended-clause-end
returns-in-Ended-clause-end g c = (c.in-Ended.ensures.ended c.in-Ended.count refl).last
