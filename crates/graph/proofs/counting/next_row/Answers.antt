use Rattle.std.proofs.Common.{◌∙◌, refl, sym}
use Rattle.std.proofs.lemmas.Bool.{false≢true, not-true, not-false}
use Rattle.csv.specs.Records.{fields_of}
use Rattle.graph.proofs.RecordLemmas.{reads-none, reads-one}
use Rattle.graph.proofs.counting.next_row.Goals as goal

pub returns-then-more-clause-one : goal.returns-then-more-clause-one
returns-then-more-clause-one g c = λ one.
    reads-one g.R.Read.remaining c.args.reader.now c.read_byte_record.new.self (fields_of c.read_byte_record.new.row)
    (rw c.if-more.true at c.in_ok-more.ensures.reads) ((rw c.if-more.true at c.in_ok-more.ensures.reads_on) refl)
    (sym c.is_blank.ensures ∙ not-true c.is_blank.result one)

pub returns-then-more-clause-end : goal.returns-then-more-clause-end
returns-then-more-clause-end g c = λ blank.
    reads-none g.R.Read.remaining c.args.reader.now c.read_byte_record.new.self c.in_ok-more.more (fields_of c.read_byte_record.new.row)
    c.in_ok-more.ensures.reads (λ _. sym c.is_blank.ensures ∙ not-false c.is_blank.result blank)

pub returns-else-more-clause-end : goal.returns-else-more-clause-end
returns-else-more-clause-end g c = λ _.
    reads-none g.R.Read.remaining c.args.reader.now c.read_byte_record.new.self c.in_ok-more.more (fields_of c.read_byte_record.new.row)
    c.in_ok-more.ensures.reads (λ found. absurd (false≢true (sym c.if-more.false ∙ found)))
