use Rattle.batches.proofs.WholeLemmas.{spelling_is_read}
use Rattle.batches.proofs.laws.spelling_is_read.Goals as goal

pub returns : goal.returns
returns c = spelling_is_read
