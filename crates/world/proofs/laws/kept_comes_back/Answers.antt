use Rattle.world.proofs.RunLemmas.{kept_back}
use Rattle.world.proofs.laws.kept_comes_back.Goals as goal

pub returns : goal.returns
returns c = kept_back
