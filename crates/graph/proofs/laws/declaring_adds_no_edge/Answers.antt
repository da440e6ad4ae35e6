use Rattle.graph.proofs.InputLemmas.{declaring_adds_no_edge}
use Rattle.graph.proofs.laws.declaring_adds_no_edge.Goals as goal

pub returns : goal.returns
returns c = declaring_adds_no_edge
