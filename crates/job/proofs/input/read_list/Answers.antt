use Rattle.std.proofs.Common.{◌≡◌, ◌∙◌, ℕ, List, length, arith, sym, subst, refl}
use Rattle.std.specs.Io.KnownBytes.{prepend_known}
use Rattle.job.specs.declared.section.SectionStep.TheVariants as step
use Rattle.job.specs.NoJob.{GoesBeyond}
use Rattle.job.proofs.InputLemmas.{goes_beyond, lacks_list_mark}
use Rattle.job.proofs.SectionLemmas.{Passed, passed_end, passed_more, passed_start}
use Rattle.job.proofs.input.read_list.Goals as goal

pub loop-cut-init : goal.loop-cut-init
loop-cut-init g c = record {
  passed =
      subst (λ (l : List ℕ). Passed l c.start-cut.result.begins (g.R.Read.remaining c.args.reader.now) (prepend_known c.start-cut.result.ahead.items (g.R.Read.remaining c.args.reader.now))) (sym c.requires)
      (passed_start c.start-cut.result.begins c.start-cut.result.ahead.items (g.R.Read.remaining c.args.reader.now) c.start-cut.ensures.begins c.start-cut.ensures.ahead);
  counted = refl;
}

pub loop-cut-preserved : goal.loop-cut-preserved
loop-cut-preserved g c = record {
  passed =
      passed_more c.loop-cut.list.items c.push.new.self.items c.loop-cut.cut.begins c.next_step.new.cut.begins c.in-Byte.byte (g.R.Read.remaining c.args.reader.now)
      (prepend_known c.loop-cut.cut.ahead.items (g.R.Read.remaining c.loop-cut.reader)) (prepend_known c.next_step.new.cut.ahead.items (g.R.Read.remaining c.next_step.new.reader))
      (c.next_step.ensures.next c.in-Byte.byte c.in-Byte.is) c.in-Ok.ensures.items c.loop-cut.invariant.passed (c.next_step.ensures.byte c.in-Byte.byte c.in-Byte.is);
  counted = c.next_step.ensures.counted (λ (e : c.next_step.result ≡ step.Failed). absurd (cc)) ∙ c.loop-cut.invariant.counted;
}

pub returns-in-Mark-clause-read : goal.returns-in-Mark-clause-read
returns-in-Mark-clause-read g c =
    passed_end c.loop-cut.list.items c.loop-cut.cut.begins (g.R.Read.remaining c.args.reader.now) (prepend_known c.loop-cut.cut.ahead.items (g.R.Read.remaining c.loop-cut.reader)) (g.R.Read.remaining c.next_step.new.reader)
    c.loop-cut.invariant.passed (c.next_step.ensures.mark c.in-Mark.is)

pub returns-in-End-clause-refused : goal.returns-in-End-clause-refused
returns-in-End-clause-refused g c =
    lacks_list_mark c.loop-cut.list.items c.loop-cut.cut.begins (g.R.Read.remaining c.args.reader.now) (prepend_known c.loop-cut.cut.ahead.items (g.R.Read.remaining c.loop-cut.reader))
    c.loop-cut.invariant.passed (c.next_step.ensures.end c.in-End.is) (omega (arith, c.loop-cut-test.true, c.len.ensures))

pub returns-in_default-clause-memory : goal.returns-in_default-clause-memory
returns-in_default-clause-memory g c = λ is.
    subst (λ (l : List ℕ). GoesBeyond (length l) (g.R.Read.remaining c.args.reader.now)) (sym c.in_default.ensures.items)
    (goes_beyond c.loop-cut.list.items c.loop-cut.cut.begins c.in-Byte.byte (g.R.Read.remaining c.args.reader.now)
    (prepend_known c.loop-cut.cut.ahead.items (g.R.Read.remaining c.loop-cut.reader)) (prepend_known c.next_step.new.cut.ahead.items (g.R.Read.remaining c.next_step.new.reader))
    c.loop-cut.invariant.passed (c.next_step.ensures.byte c.in-Byte.byte c.in-Byte.is))
