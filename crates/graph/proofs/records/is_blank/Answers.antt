use Rattle.std.proofs.Common.{◌∙◌, arith}
use Rattle.graph.proofs.FormLemmas.{blank-one, blank-none}
use Rattle.graph.proofs.records.is_blank.Goals as goal

pub returns-in-Some : goal.returns-in-Some
returns-in-Some c = c.is_empty.ensures ∙ blank-one _ c.in-Some.field.now (omega arith) (rw c.in-Some.is at c.get.ensures.value)

pub returns-in-None : goal.returns-in-None
returns-in-None c = blank-none _ (rw c.in-None.is at c.get.ensures.value)
