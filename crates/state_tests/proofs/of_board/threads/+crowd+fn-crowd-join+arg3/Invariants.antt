use Rattle.std.proofs.Common.{◌+◌, ◌*◌}
use Rattle.state_tests.proofs.of_board.threads.+crowd+fn-crowd-join+arg3.Given as goal

abbrev pub decreases-crowd : goal.decreases-crowd
decreases-crowd g l = 2 * l.others + 1

abbrev pub decreases-join+arg3 : goal.decreases-join+arg3
decreases-join+arg3 g l = 2 * l.fewer + 2
