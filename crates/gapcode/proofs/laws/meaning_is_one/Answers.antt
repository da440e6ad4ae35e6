use Rattle.gapcode.proofs.WholeLemmas.{one_meaning}
use Rattle.gapcode.proofs.laws.meaning_is_one.Goals as goal

pub returns : goal.returns
returns c = one_meaning
