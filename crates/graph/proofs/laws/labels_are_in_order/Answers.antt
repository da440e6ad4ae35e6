use Rattle.graph.proofs.InputLemmas.{labels_are_in_order}
use Rattle.graph.proofs.laws.labels_are_in_order.Goals as goal

pub returns : goal.returns
returns c = labels_are_in_order
