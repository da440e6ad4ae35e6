use Rattle.graph.proofs.InputLemmas.{labels_are_fields}
use Rattle.graph.proofs.laws.labels_are_fields.Goals as goal

pub returns : goal.returns
returns c = labels_are_fields
