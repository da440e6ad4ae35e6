use Rattle.gapcode.proofs.WholeLemmas.{all_again}
use Rattle.gapcode.proofs.laws.spelling_is_read.Goals as goal

pub returns : goal.returns
returns c = all_again
