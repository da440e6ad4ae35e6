use Rattle.gapcode.proofs.WholeLemmas.{one_spelling}
use Rattle.gapcode.proofs.laws.spelling_is_one.Goals as goal

pub returns : goal.returns
returns c = one_spelling
