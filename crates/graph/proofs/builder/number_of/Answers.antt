use Rattle.std.proofs.Common.{sym, inl}
use Rattle.std.proofs.lemmas.Result.{err_from_is_err_and}
use Rattle.graph.specs.Labels.{texts}
use Rattle.graph.proofs.MakingLemmas.{known-place, with_label-known}
use Rattle.graph.proofs.builder.number_of.Goals as goal

pub returns-in_err-insert_label-in-None-clause-only : goal.returns-in_err-insert_label-in-None-clause-only
returns-in_err-insert_label-in-None-clause-only c =
    let p = err_from_is_err_and c.from_residual.result c.from_residual.ensures.1 in
    rw p.1 (inl p.2)

pub returns-in-Some-clause-labels : goal.returns-in-Some-clause-labels
returns-in-Some-clause-labels c = sym (with_label-known (texts c.args.labels.now) c.args.label.now c.in-Some.number c.in-Some.ensures.found)

pub returns-in-Some-clause-full : goal.returns-in-Some-clause-full
returns-in-Some-clause-full c none = absurd (known-place (texts c.args.labels.now) c.args.label.now c.in-Some.number c.in-Some.ensures.found none)
