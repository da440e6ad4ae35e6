use Rattle.std.proofs.Common.{arith}
use Rattle.gapcode.proofs.WordsLemmas.{shifted_is}
use Rattle.gapcode.proofs.code.shifted_word.Goals as goal

pub returns : goal.returns
returns c = shifted_is c.args.nine.now c.from_be_bytes-word.result c.args.shift c.requires.nine c.requires.shift (λ i. omega (arith, c.type_inv.nine i)) c.from_be_bytes-word.ensures
