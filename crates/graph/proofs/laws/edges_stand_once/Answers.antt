use Rattle.graph.proofs.InputLemmas.{edges_stand_once}
use Rattle.graph.proofs.laws.edges_stand_once.Goals as goal

pub returns : goal.returns
returns c = edges_stand_once
