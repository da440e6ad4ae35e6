use Rattle.std.proofs.Common.{ap}
use Rattle.gapcode.specs.Bits.{Place}
use Rattle.gapcode.proofs.WordsLemmas.{reader_inside}
use Rattle.gapcode.proofs.reader.BitReader.position.Goals as goal

pub returns-clause-inside : goal.returns-clause-inside
returns-clause-inside c = rw (ap (λ (p : Place). p.position) c.self.view_is) (reader_inside c.self.inside.bytes.now c.self.inside.place c.args.self.now c.self.view_is c.self.invariant)
