use Rattle.std.proofs.Common.{◌≡◌}
use Rattle.state_tests.proofs.of_board.User.count.Given as goal

abbrev pub invariant-loop-at : goal.invariant-loop-at
invariant-loop-at g l = l.self ≡ l.fn.self
