use Rattle.std.proofs.Common.{arith}
use Rattle.gapcode.proofs.SteppingLemmas.{stepped, no_error}
use Rattle.gapcode.proofs.elements.step.Goals as goal

pub overflow_sub-result : goal.overflow_sub-result
overflow_sub-result c = let s = stepped c.args.bytes.now c.args.position c.args.left c.args.least c.in-Ok.gap c.in-Ok.end c.requires.placed c.requires.some c.in-Ok.ensures.exact c.in-Ok.ensures.inside in omega (arith, s.some)

pub overflow_add-result : goal.overflow_add-result
overflow_add-result c = let s = stepped c.args.bytes.now c.args.position c.args.left c.args.least c.in-Ok.gap c.in-Ok.end c.requires.placed c.requires.some c.in-Ok.ensures.exact c.in-Ok.ensures.inside in omega (arith, s.fits)

pub overflow_cast-result : goal.overflow_cast-result
overflow_cast-result c = let s = stepped c.args.bytes.now c.args.position c.args.left c.args.least c.in-Ok.gap c.in-Ok.end c.requires.placed c.requires.some c.in-Ok.ensures.exact c.in-Ok.ensures.inside in omega (arith, s.fits, s.some)

pub returns-in-Ok-clause-next : goal.returns-in-Ok-clause-next
returns-in-Ok-clause-next c = (stepped c.args.bytes.now c.args.position c.args.left c.args.least c.in-Ok.gap c.in-Ok.end c.requires.placed c.requires.some c.in-Ok.ensures.exact c.in-Ok.ensures.inside).next

pub returns-in-Ok-clause-placed : goal.returns-in-Ok-clause-placed
returns-in-Ok-clause-placed c = (stepped c.args.bytes.now c.args.position c.args.left c.args.least c.in-Ok.gap c.in-Ok.end c.requires.placed c.requires.some c.in-Ok.ensures.exact c.in-Ok.ensures.inside).placed

pub returns-in-Err-clause-next : goal.returns-in-Err-clause-next
returns-in-Err-clause-next c = absurd (no_error c.args.bytes.now c.args.position c.args.left c.args.least c.in-Err.field-0 c.requires.placed c.requires.some c.in-Err.ensures.exact)

pub returns-in-Err-clause-placed : goal.returns-in-Err-clause-placed
returns-in-Err-clause-placed c = absurd (no_error c.args.bytes.now c.args.position c.args.left c.args.least c.in-Err.field-0 c.requires.placed c.requires.some c.in-Err.ensures.exact)
