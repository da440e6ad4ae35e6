use Rattle.std.proofs.Common.{length, List, ℕ, ap, arith}
use Rattle.gapcode.specs.Bits.{bits_of}
use Rattle.gapcode.proofs.IndexLemmas.{length-lists_of}
use Rattle.gapcode.proofs.lists.Lists.middle.Goals as goal

pub middle_of-requires-clause-inside : goal.middle_of-requires-clause-inside
middle_of-requires-clause-inside c =
    let l = c.self.inside in
    omega (arith, c.requires.inside, length-lists_of (bits_of l.bytes.items) l.places, ap (length {A = List ℕ}) c.self.view_is)
