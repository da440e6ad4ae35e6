use Rattle.registers.specs.Laws.{number_back}
use Rattle.registers.proofs.mask.SourceMask.of_bits.Goals as goal

pub returns-clause-back : goal.returns-clause-back
returns-clause-back c = number_back c.args.bits c.ranges.bits.fits
