use Rattle.std.proofs.Common.{◌≡◌}
use Rattle.state_tests.proofs.of_board.calls.are_answered.Given as goal

abbrev pub invariant-loop-step : goal.invariant-loop-step
invariant-loop-step g l = l.user ≡ l.fn.user
