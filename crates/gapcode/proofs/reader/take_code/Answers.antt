use Rattle.std.proofs.Common.{arith}
use Rattle.gapcode.proofs.WordsLemmas.{length-bits_of, reader_inside}
use Rattle.gapcode.proofs.reader.take_code.Goals as goal

pub returns-in_err-x-clause-from : goal.returns-in_err-x-clause-from
returns-in_err-x-clause-from c = reader_inside c.reader.inside.bytes.now c.reader.inside.place c.args.reader.now c.reader.view_is c.reader.invariant

pub returns-in_err-x-clause-inside : goal.returns-in_err-x-clause-inside
returns-in_err-x-clause-inside c = reader_inside c.reader.inside.bytes.now c.reader.inside.place c.args.reader.now c.reader.view_is c.reader.invariant

pub returns-clause-from : goal.returns-clause-from
returns-clause-from c = reader_inside c.reader.inside.bytes.now c.reader.inside.place c.args.reader.now c.reader.view_is c.reader.invariant

pub returns-clause-inside : goal.returns-clause-inside
returns-clause-inside c = omega (arith, length-bits_of c.reader.inside.bytes.now, c.in_ok-x.ensures.inside)
