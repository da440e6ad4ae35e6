use Rattle.batches.proofs.WholeLemmas.{spelling_is_one}
use Rattle.batches.proofs.laws.spelling_is_one.Goals as goal

pub returns : goal.returns
returns c = spelling_is_one
