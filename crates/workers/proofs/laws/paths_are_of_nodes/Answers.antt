use Rattle.workers.proofs.PathLemmas.{paths_are_of_nodes}
use Rattle.workers.proofs.laws.paths_are_of_nodes.Goals as goal

pub returns : goal.returns
returns c = paths_are_of_nodes
