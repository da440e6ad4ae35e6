use Rattle.std.proofs.Common.{◌≡◌, arith, true, false}
use Rattle.std.proofs.lemmas.Result.{err_from_is_err_and}
use Rattle.csv.specs.Records.{fields_of}
use Rattle.graph.proofs.CountLemmas.{counts-start, counts-end, counts-more, counts-stop}
use Rattle.graph.proofs.RecordLemmas.{past-within}
use Rattle.graph.proofs.counting.mark_all.Goals as goal

pub loop-number-init : goal.loop-number-init
loop-number-init g c = record {
  size = c.requires.marks.count;
  counts = λ d text at. counts-start g.R.Read.remaining d c.args.index.now text c.args.reader.now c.args.marks.now c.requires.marks at;
}

pub returns-then-not-more-clause-ok : goal.returns-then-not-more-clause-ok
returns-then-not-more-clause-ok g c = λ d text at few.
    let counts = c.loop-number.invariant.counts d text at in
    let none : c.in_ok-more.more ≡ false = search c.if-not-more.true in
    counts-end g.R.Read.remaining d c.args.index.now c.loop-number.number text c.loop-number.reader c.loop-number.marks
    counts (c.in_ok-more.ensures.end none d text counts.past counts.at).all

-- there is no record number `most`
pub returns-clause-ok : goal.returns-clause-ok
returns-clause-ok g c = λ d text at few.
    let counts = c.loop-number.invariant.counts d text at in
    absurd (omega (arith, few, counts.count, past-within g.R.Read.remaining d text counts.past c.loop-number.reader counts.at, c.loop-number-test.false))

pub returns-in_err-mark_record-clause-refused : goal.returns-in_err-mark_record-clause-refused
returns-in_err-mark_record-clause-refused g c = λ d text at.
    let counts = c.loop-number.invariant.counts d text at in
    let more : c.in_ok-more.more ≡ true = search c.if-not-more.false in
    let p = err_from_is_err_and c.from_residual-in_err-mark_record.result c.from_residual-in_err-mark_record.ensures.1 in
    rw (p.1, p.2) (counts-stop g.R.Read.remaining d c.args.index.now c.loop-number.number text c.loop-number.reader c.next_row.new.reader
    c.loop-number.marks (fields_of c.next_row.new.row) c.in_err-mark_record.field-0.0
    counts (c.in_ok-more.ensures.one more d text counts.past counts.at) c.in_err-mark_record.ensures.stops)

pub loop-number-preserved : goal.loop-number-preserved
loop-number-preserved g c =
    let marks = c.in_ok-mark_record.ensures.marks in
    let passes = c.in_ok-mark_record.ensures.passes in
    record {
      size = omega (arith, c.mark_record.auto.marks, c.loop-number.invariant.size);
      counts = λ d text at.
          let counts = c.loop-number.invariant.counts d text at in
          let more : c.in_ok-more.more ≡ true = search c.if-not-more.false in
          counts-more g.R.Read.remaining d c.args.index.now c.loop-number.number text c.loop-number.reader c.next_row.new.reader
          c.loop-number.marks c.mark_record.new.marks (fields_of c.next_row.new.row)
          counts (c.in_ok-more.ensures.one more d text counts.past counts.at) marks passes;
    }
