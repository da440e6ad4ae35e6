use Rattle.std.proofs.Common.{◌≡◌, ◌∙◌, ◌==◌, length, sym, arith, true, false}
use Rattle.csv.specs.Records.{fields_of}
use Rattle.edgelist.proofs.FormLemmas.{form-none, form-empty, form-long, form-one, form-two, one-field, two-fields}
use Rattle.edgelist.proofs.row.fields_in.Goals as goal
use Rattle.edgelist.proofs.row.fields_in.Goals.{then-is_empty-via-then-is_empty, then-is_empty-via-else-is_empty+then-len-gt2}

pub returns-in_default-clause-none : goal.returns-in_default-clause-none
returns-in_default-clause-none c = sym (form-none _ (rw c.in_default.is at c.get.ensures.value))

pub returns-then-is_empty-clause-none : goal.returns-then-is_empty-clause-none
returns-then-is_empty-clause-none c =
    elim c.then-is_empty.branch [
      | then-is_empty-via-then-is_empty w ↦ sym (form-empty _ c.in-Some.source.now (rw c.in-Some.is at c.get.ensures.value) (sym c.is_empty.ensures ∙ w.if-is_empty.true))
      | then-is_empty-via-else-is_empty+then-len-gt2 w ↦ sym (form-long (fields_of c.args.row.now) (omega arith))
    ]

pub returns-in-None-clause-fields : goal.returns-in-None-clause-fields
returns-in-None-clause-fields c = one-field _ _ (rw c.in-Some.is at c.get.ensures.value) (rw c.in-None.is at c.get-2.ensures.value)

pub returns-in-None-clause-form : goal.returns-in-None-clause-form
returns-in-None-clause-form c =
    sym (form-one _ c.in-Some.source.now (rw c.in-Some.is at c.get.ensures.value) (sym c.is_empty.ensures ∙ c.if-is_empty.false)
    (rw c.in-None.is at c.get-2.ensures.value))

pub returns-then-is_empty-2-clause-none : goal.returns-then-is_empty-2-clause-none
returns-then-is_empty-2-clause-none c =
    let empty : (length c.in-Some-get.target.now == 0) ≡ true = sym c.is_empty-in-Some-get.ensures ∙ c.if-is_empty-2.true in
    sym (rw empty at (form-two _ c.in-Some.source.now c.in-Some-get.target.now (rw c.in-Some.is at c.get.ensures.value) (sym c.is_empty.ensures ∙ c.if-is_empty.false)
    (rw c.in-Some-get.is at c.get-2.ensures.value) (omega arith)))

pub returns-else-is_empty-2-clause-form : goal.returns-else-is_empty-2-clause-form
returns-else-is_empty-2-clause-form c =
    let full : (length c.in-Some-get.target.now == 0) ≡ false = sym c.is_empty-in-Some-get.ensures ∙ c.if-is_empty-2.false in
    sym (rw full at (form-two _ c.in-Some.source.now c.in-Some-get.target.now (rw c.in-Some.is at c.get.ensures.value) (sym c.is_empty.ensures ∙ c.if-is_empty.false)
    (rw c.in-Some-get.is at c.get-2.ensures.value) (omega arith)))

pub returns-else-is_empty-2-clause-fields : goal.returns-else-is_empty-2-clause-fields
returns-else-is_empty-2-clause-fields c =
    two-fields _ _ _ (returns-else-is_empty-2-clause-form c) (rw c.in-Some.is at c.get.ensures.value) (rw c.in-Some-get.is at c.get-2.ensures.value)
