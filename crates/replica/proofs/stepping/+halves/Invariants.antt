use Rattle.std.proofs.Common.{◌+◌, ◌*◌}
use Rattle.replica.proofs.stepping.+halves.Given as goal

abbrev pub decreases-step_both : goal.decreases-step_both
decreases-step_both g l = 3 * l.half.now.depth + 2

abbrev pub decreases-step_both-left : goal.decreases-step_both-left
decreases-step_both-left g l = 3 * l.half.now.depth + 1

abbrev pub decreases-step_both-right : goal.decreases-step_both-right
decreases-step_both-right g l = 3 * l.half.now.depth + 1

abbrev pub decreases-step_halves : goal.decreases-step_halves
decreases-step_halves g l = 3 * l.blocks.now.depth
