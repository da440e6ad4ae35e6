use Rattle.std.proofs.Common.{refl}
use Rattle.gapcode.specs.Bits.{digits}
use Rattle.gapcode.proofs.writer.BitWriter.new.Goals as goal

pub returns : goal.returns
unfolding digits
returns c = rw c.new.ensures.items refl
