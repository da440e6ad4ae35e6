use Rattle.gapcode.proofs.GammaLemmas.{one_code}
use Rattle.gapcode.proofs.laws.codes_are_prefix_free.Goals as goal

pub returns : goal.returns
returns c = one_code
