use Rattle.hyperball.proofs.ProgressLemmas.{hint_is}
use Rattle.hyperball.proofs.laws.lines_of_hints.Goals as goal

pub returns : goal.returns
returns c = hint_is
