use Rattle.std.proofs.Common.{arith}
use Rattle.gapcode.proofs.SteppingLemmas.{begun, no_list}
use Rattle.gapcode.proofs.elements.degree.Goals as goal

pub overflow_sub-result : goal.overflow_sub-result
overflow_sub-result c = let s = begun c.args.bytes.now c.args.position c.in-Ok.code c.in-Ok.end c.requires.placed c.in-Ok.ensures.exact c.in-Ok.ensures.inside in omega (arith, s.some)

pub returns-in-Ok-clause-first : goal.returns-in-Ok-clause-first
returns-in-Ok-clause-first c = (begun c.args.bytes.now c.args.position c.in-Ok.code c.in-Ok.end c.requires.placed c.in-Ok.ensures.exact c.in-Ok.ensures.inside).first

pub returns-in-Ok-clause-placed : goal.returns-in-Ok-clause-placed
returns-in-Ok-clause-placed c = (begun c.args.bytes.now c.args.position c.in-Ok.code c.in-Ok.end c.requires.placed c.in-Ok.ensures.exact c.in-Ok.ensures.inside).placed

pub returns-in-Err-clause-first : goal.returns-in-Err-clause-first
returns-in-Err-clause-first c = absurd (no_list c.args.bytes.now c.args.position c.in-Err.field-0 c.requires.placed c.in-Err.ensures.exact)

pub returns-in-Err-clause-placed : goal.returns-in-Err-clause-placed
returns-in-Err-clause-placed c = absurd (no_list c.args.bytes.now c.args.position c.in-Err.field-0 c.requires.placed c.in-Err.ensures.exact)
