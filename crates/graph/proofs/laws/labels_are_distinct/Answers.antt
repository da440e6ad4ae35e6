use Rattle.graph.proofs.InputLemmas.{labels_are_distinct}
use Rattle.graph.proofs.laws.labels_are_distinct.Goals as goal

pub returns : goal.returns
returns c = labels_are_distinct
