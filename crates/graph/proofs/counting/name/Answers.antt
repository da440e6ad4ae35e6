use Rattle.std.proofs.Common.{◌∙◌, sym, arith}
use Rattle.graph.proofs.FormLemmas.{name-none, name-empty, name-one, name-is}
use Rattle.graph.proofs.counting.name.Goals as goal

pub returns-in_default-clause-none : goal.returns-in_default-clause-none
returns-in_default-clause-none c = name-none _ (rw c.in_default.is at c.get.ensures.value)

pub returns-then-is_empty-clause-none : goal.returns-then-is_empty-clause-none
returns-then-is_empty-clause-none c = name-empty _ c.in-Some.field.now (omega arith) (rw c.in-Some.is at c.get.ensures.value) (sym c.is_empty.ensures ∙ c.if-is_empty.true)

pub returns-clause-fields : goal.returns-clause-fields
returns-clause-fields c = name-one _ c.in-Some.field.now (omega arith) (rw c.in-Some.is at c.get.ensures.value)

pub returns-clause-is_name : goal.returns-clause-is_name
returns-clause-is_name c = name-is _ c.in-Some.field.now (omega arith) (rw c.in-Some.is at c.get.ensures.value) (sym c.is_empty.ensures ∙ c.if-is_empty.false)
