use Rattle.std.proofs.Common.{◌≤◌}
use Rattle.replica.proofs.telling.Telling.count.Given as goal

abbrev pub invariant-loop-k : goal.invariant-loop-k
invariant-loop-k l = l.count ≤ l.k
