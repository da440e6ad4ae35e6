use Rattle.node.proofs.LawLemmas.{kept_taken}
use Rattle.node.proofs.laws.kept_is_taken.Goals as goal

pub returns : goal.returns
returns c = kept_taken
