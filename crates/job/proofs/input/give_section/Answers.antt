use Rattle.std.proofs.Common.{◌≡◌, ◌∙◌, ◌+◌, ◌≤◌, ℕ, length, arith, ap, refl, subst}
use Rattle.std.specs.Prelude.{Err, IfSome}
use Rattle.std.specs.Io.KnownBytes.{prepend_known}
use Rattle.std.proofs.lemmas.Result.{err_from_is_err_and}
use Rattle.edgelist.specs.Reading.{meaning_under}
use Rattle.job.specs.declared.section.SectionStep.TheVariants as step
use Rattle.job.proofs.InputLemmas.{gives_all, gives_end, gives_more, gives_start, refused_in, too_many}
use Rattle.job.proofs.input.give_section.Goals as goal

pub loop-count-init : goal.loop-count-init
loop-count-init g c = record {
  so = λ limits delimiter given.
      gives_start limits delimiter c.start-cut.result.begins c.start-cut.result.ahead.items (g.R.Read.remaining c.args.reader.now) c.args.edges.now
      c.start-cut.ensures.begins c.start-cut.ensures.ahead given;
  counted = refl;
}

pub loop-count-preserved : goal.loop-count-preserved
loop-count-preserved g c = record {
  so = λ limits delimiter given.
      gives_more limits delimiter c.loop-count._count (c.loop-count._count + 1) c.loop-count.cut.begins c.next_step.new.cut.begins c.in-Byte.byte (g.R.Read.remaining c.args.reader.now)
      (prepend_known c.loop-count.cut.ahead.items (g.R.Read.remaining c.loop-count.reader)) (prepend_known c.next_step.new.cut.ahead.items (g.R.Read.remaining c.next_step.new.reader))
      c.loop-count.edges c.add.new.self (c.next_step.ensures.next c.in-Byte.byte c.in-Byte.is) refl (c.loop-count.invariant.so limits delimiter given) (c.next_step.ensures.byte c.in-Byte.byte c.in-Byte.is)
      (λ text of. c.in_ok-add-in-Byte.ensures.ok limits delimiter text of);
  counted = c.next_step.ensures.counted (λ (e : c.next_step.result ≡ step.Failed). absurd (cc)) ∙ c.loop-count.invariant.counted;
}

pub returns-in-Mark-clause-given : goal.returns-in-Mark-clause-given
returns-in-Mark-clause-given g c = λ limits delimiter given.
    gives_end limits delimiter c.loop-count._count c.loop-count.cut.begins (g.R.Read.remaining c.args.reader.now) (prepend_known c.loop-count.cut.ahead.items (g.R.Read.remaining c.loop-count.reader)) (g.R.Read.remaining c.next_step.new.reader)
    c.loop-count.edges (c.loop-count.invariant.so limits delimiter given) (c.next_step.ensures.mark c.in-Mark.is)

pub returns-in_err-add-in-Byte-clause-refused : goal.returns-in_err-add-in-Byte-clause-refused
returns-in_err-add-in-Byte-clause-refused g c = λ limits delimiter given.
    let p = err_from_is_err_and c.from_residual.result c.from_residual.ensures.1 in
    rw (p.1, p.2)
    (refused_in (meaning_under limits delimiter) limits delimiter c.loop-count._count c.loop-count.cut.begins c.in-Byte.byte (g.R.Read.remaining c.args.reader.now)
    (prepend_known c.loop-count.cut.ahead.items (g.R.Read.remaining c.loop-count.reader)) (prepend_known c.next_step.new.cut.ahead.items (g.R.Read.remaining c.next_step.new.reader))
    c.loop-count.edges _ (λ e. c.in_err-add-in-Byte.ensures.read (ap Err e)) (c.loop-count.invariant.so limits delimiter given) (c.next_step.ensures.byte c.in-Byte.byte c.in-Byte.is)
    (λ text more of plain. c.in_err-add-in-Byte.ensures.refused limits delimiter text more of plain))

pub returns-in-End-clause-given : goal.returns-in-End-clause-given
returns-in-End-clause-given g c = λ limits delimiter given.
    gives_all limits delimiter c.loop-count._count c.loop-count.cut.begins (g.R.Read.remaining c.args.reader.now) (prepend_known c.loop-count.cut.ahead.items (g.R.Read.remaining c.loop-count.reader))
    c.loop-count.edges (c.loop-count.invariant.so limits delimiter given) (c.next_step.ensures.end c.in-End.is)

pub returns-clause-refused : goal.returns-clause-refused
returns-clause-refused g c = λ limits delimiter given.
    let last : c.loop-count._count ≡ 18446744073709551615 = omega (arith, c.loop-count.auto._count-end, c.loop-count-test.false) in
    subst (λ (n : ℕ). IfSome (g.R.Read.remaining c.args.reader.now) (λ text. n ≤ length text)) last
    (too_many limits delimiter c.loop-count._count c.loop-count.cut.begins (g.R.Read.remaining c.args.reader.now) (prepend_known c.loop-count.cut.ahead.items (g.R.Read.remaining c.loop-count.reader))
    c.loop-count.edges (c.loop-count.invariant.so limits delimiter given))
