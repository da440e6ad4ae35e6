use Rattle.std.proofs.Common.{◌∙◌, sym, ap}
use Rattle.std.specs.Prelude.{slice_get}
use Rattle.gapcode.specs.Bits.{Place}
use Rattle.gapcode.proofs.WordsLemmas.{bit_at, bit_past}
use Rattle.gapcode.proofs.reader.BitReader.bit.Goals as goal

pub returns-then-index-self-clause-bit : goal.returns-then-index-self-clause-bit
returns-then-index-self-clause-bit c =
    sym (bit_past c.self.inside.bytes.now c.self.inside.place c.if-index-self.true) ∙ ap (λ (p : Place). slice_get p.bits p.position) c.self.view_is

pub returns-clause-bit : goal.returns-clause-bit
returns-clause-bit c =
    sym (bit_at c.self.inside.bytes.now c.self.inside.place c.if-index-self.false) ∙ ap (λ (p : Place). slice_get p.bits p.position) c.self.view_is
