use Rattle.std.proofs.Common.{refl, arith}
use Rattle.graph.specs.Records.{byte_of}
use Rattle.graph.proofs.LineLemmas.{records-few}
use Rattle.graph.proofs.counting.mark_list.Goals as goal

pub returns-clause-ok : goal.returns-clause-ok
returns-clause-ok c = λ plain.
    c.mark_all.ensures.ok (byte_of c.args.delimiter) c.args.list.now (c.reader_of-reader.ensures c.args.list.now refl plain)
    (omega (arith, records-few (byte_of c.args.delimiter) c.args.list.now))

pub returns-clause-refused : goal.returns-clause-refused
returns-clause-refused c = λ plain. c.mark_all.ensures.refused (byte_of c.args.delimiter) c.args.list.now (c.reader_of-reader.ensures c.args.list.now refl plain)
