use Rattle.std.proofs.Common.{◌≡◌, Bool, length, ap, arith}
use Rattle.std.proofs.lemmas.Result.{err_from_is_err_and}
use Rattle.graph.proofs.CountLemmas.{marks-none}
use Rattle.graph.proofs.FeedLemmas.{refill}
use Rattle.graph.proofs.counting.marks_of.Goals as goal

pub mark_labels-requires-clause-marks : goal.mark_labels-requires-clause-marks
mark_labels-requires-clause-marks c = rw (c.deref_mut.ensures.value, c.in_ok-marks.ensures, c.len.ensures) (marks-none c.args.labels.now)

pub returns-clause-ok : goal.returns-clause-ok
returns-clause-ok c = λ plain.
    let same : length c.mark_labels.new.marks ≡ length c.in_ok-marks.marks.items = omega (arith, ap (length {A = Bool}) c.deref_mut.ensures.value, c.mark_labels.auto.marks) in
    let full : c.in_ok-marks.marks.len ≡ length c.in_ok-marks.marks.items = omega (arith, c.deref_mut.ensures.len, ap (length {A = Bool}) c.deref_mut.ensures.value) in
    rw (refill c.mark_labels.new.marks c.in_ok-marks.marks.items c.in_ok-marks.marks.len full same) (c.in_ok-mark_labels.ensures.ok plain)

pub returns-in_err-mark_labels-clause-refused : goal.returns-in_err-mark_labels-clause-refused
returns-in_err-mark_labels-clause-refused c = λ plain.
    let p = err_from_is_err_and c.from_residual-in_err-mark_labels.result c.from_residual-in_err-mark_labels.ensures.1 in
    rw (p.1, p.2) (c.in_err-mark_labels.ensures.refused plain)
