use Rattle.gapcode.proofs.GammaLemmas.{gamma_again}
use Rattle.gapcode.proofs.laws.code_is_read.Goals as goal

pub returns : goal.returns
returns c = gamma_again
