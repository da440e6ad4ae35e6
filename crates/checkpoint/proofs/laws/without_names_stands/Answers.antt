use Rattle.checkpoint.proofs.UnnamedLemmas.{without_names_stands}
use Rattle.checkpoint.proofs.laws.without_names_stands.Goals as goal

pub returns : goal.returns
returns c = without_names_stands
