use Rattle.std.proofs.Common.{arith}
use Rattle.gapcode.proofs.JoinLemmas.{first_small, first_read}
use Rattle.gapcode.proofs.writer.first_bits.Goals as goal

pub returns-clause-small : goal.returns-clause-small
returns-clause-small c = first_small c.args.n c.next_word.result c.requires.n (omega arith)

pub returns-clause-bits : goal.returns-clause-bits
returns-clause-bits c = first_read c.args.bytes.now c.args.n c.next_word.result c.requires.n c.requires.inside c.next_word.ensures
