use Rattle.std.proofs.Common.{refl}
use Rattle.std.proofs.lemmas.Result.{IfOk-at_ok, IfOk-weaker}
use Rattle.graph.specs.Records.{byte_of}
use Rattle.edgelist.proofs.reading.Reading.read_lines.Goals as goal

pub returns-clause-number : goal.returns-clause-number
returns-clause-number c = IfOk-weaker c.read_answer.result _ _ (λ n is. IfOk-at_ok _ is c.read_more-read.ensures.number) c.read_answer.ensures.ok

pub returns-clause-within : goal.returns-clause-within
returns-clause-within c = IfOk-weaker c.read_answer.result _ _ (λ n is. IfOk-at_ok _ is c.read_more-read.ensures.within) c.read_answer.ensures.ok

pub returns-clause-ok : goal.returns-clause-ok
returns-clause-ok c = λ before plain t.
    IfOk-weaker c.read_answer.result _ _ (λ n is. IfOk-at_ok _ is (
    c.read_more-read.ensures.ok (byte_of c.args.lines.delimiter) c.args.lines.bytes.now (c.reader_of-reader.ensures c.args.lines.bytes.now refl plain) before t)) c.read_answer.ensures.ok

pub returns-clause-refused : goal.returns-clause-refused
returns-clause-refused c = λ before more plain t.
    c.read_answer.ensures.refused _
    (c.read_more-read.ensures.refused (byte_of c.args.lines.delimiter) c.args.lines.bytes.now (c.reader_of-reader.ensures c.args.lines.bytes.now refl plain) before more t)
