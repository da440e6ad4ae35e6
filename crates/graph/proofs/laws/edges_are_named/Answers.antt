use Rattle.graph.proofs.InputLemmas.{edges_are_named}
use Rattle.graph.proofs.laws.edges_are_named.Goals as goal

pub returns : goal.returns
returns c = edges_are_named
