use Rattle.std.proofs.Common.{◌≡◌}
use Rattle.state_tests.proofs.of_board.calls.fills.Given as goal

abbrev pub invariant-loop-at : goal.invariant-loop-at
invariant-loop-at g l = l.user ≡ l.fn.user
