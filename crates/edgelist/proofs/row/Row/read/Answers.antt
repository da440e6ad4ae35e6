use Rattle.std.proofs.Common.{◌∙◌, refl, sym}
use Rattle.std.proofs.lemmas.Bool.{false≢true, not-true, not-false}
use Rattle.csv.specs.Records.{fields_of}
use Rattle.graph.proofs.RecordLemmas.{reads-none, reads-one}
use Rattle.edgelist.proofs.row.Row.read.Goals as goal
use Rattle.edgelist.proofs.row.Row.read.Goals.{then-more, else-more}

pub returns-clause-one : goal.returns-clause-one
returns-clause-one g c = λ one.
    elim c.if-more.branch [
      | then-more w ↦
          reads-one g.R.Read.remaining c.args.reader.now c.read_byte_record-read.new.self (fields_of c.read_byte_record-read.new.row)
          (rw w.if-more.true at c.in_ok-more.ensures.reads) ((rw w.if-more.true at c.in_ok-more.ensures.reads_on) refl)
          (sym w.is_blank.ensures ∙ not-true w.is_blank.result (sym w.result-is ∙ one))
      | else-more w ↦ absurd (false≢true (sym w.if-more.false ∙ sym w.result-is ∙ one))
    ]

pub returns-clause-end : goal.returns-clause-end
returns-clause-end g c = λ end.
    reads-none g.R.Read.remaining c.args.reader.now c.read_byte_record-read.new.self c.in_ok-more.more (fields_of c.read_byte_record-read.new.row)
    c.in_ok-more.ensures.reads
    (λ found. elim c.if-more.branch [
      | then-more w ↦ sym w.is_blank.ensures ∙ not-false w.is_blank.result (sym w.result-is ∙ end)
      | else-more w ↦ absurd (false≢true (sym w.if-more.false ∙ found))
    ])
