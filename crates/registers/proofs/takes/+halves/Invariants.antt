use Rattle.std.proofs.Common.{◌+◌, ◌*◌}
use Rattle.registers.proofs.takes.+halves.Given as goal

abbrev pub decreases-take_both : goal.decreases-take_both
decreases-take_both g l = 3 * l.depth + 2

abbrev pub decreases-take_halves : goal.decreases-take_halves
decreases-take_halves g l = 3 * l.depth

abbrev pub decreases-take_both-left : goal.decreases-take_both-left
decreases-take_both-left g l = 3 * l.depth + 1

abbrev pub decreases-take_both-right : goal.decreases-take_both-right
decreases-take_both-right g l = 3 * l.depth + 1
