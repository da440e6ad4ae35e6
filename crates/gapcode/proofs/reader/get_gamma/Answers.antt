use Rattle.gapcode.specs.Bits.{rest}
use Rattle.gapcode.proofs.GammaLemmas.{gamma_found, gamma_moved, gamma_number, gamma_only, gamma_too_long}
use Rattle.gapcode.proofs.reader.get_gamma.Goals as goal

pub returns-clause-found : goal.returns-clause-found
returns-clause-found c = gamma_found c.take_code.result (rest c.args.reader.now) (rest c.take_code.new.reader) c.take_code.ensures.exact

pub returns-clause-only : goal.returns-clause-only
returns-clause-only c = gamma_only c.take_code.result (rest c.args.reader.now) (rest c.take_code.new.reader) c.take_code.ensures.exact

pub returns-clause-too_long : goal.returns-clause-too_long
returns-clause-too_long c = gamma_too_long c.take_code.result (rest c.args.reader.now) (rest c.take_code.new.reader) c.take_code.ensures.exact

pub returns-clause-number : goal.returns-clause-number
returns-clause-number c = gamma_number c.take_code.result (rest c.args.reader.now) (rest c.take_code.new.reader) c.take_code.ensures.exact

pub returns-clause-moved : goal.returns-clause-moved
returns-clause-moved c = gamma_moved c.take_code.result c.args.reader.now c.take_code.new.reader c.take_code.ensures.exact c.take_code.ensures.bits c.take_code.ensures.from c.take_code.ensures.inside
