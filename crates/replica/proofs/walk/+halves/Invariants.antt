use Rattle.std.proofs.Common.{◌+◌, ◌*◌}
use Rattle.replica.proofs.walk.+halves.Given as goal

abbrev pub decreases-walk_both : goal.decreases-walk_both
decreases-walk_both g l = 3 * l.half.now.pull.depth + 2

abbrev pub decreases-walk_both-left : goal.decreases-walk_both-left
decreases-walk_both-left g l = 3 * l.half.now.pull.depth + 1

abbrev pub decreases-walk_both-right : goal.decreases-walk_both-right
decreases-walk_both-right g l = 3 * l.half.now.pull.depth + 1

abbrev pub decreases-walk_halves : goal.decreases-walk_halves
decreases-walk_halves g l = 3 * l.walk.now.pull.depth
