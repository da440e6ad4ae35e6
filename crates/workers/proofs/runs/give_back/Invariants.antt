use Rattle.std.proofs.Common.{◌≡◌}
use Rattle.workers.proofs.runs.give_back.Given as goal

abbrev pub invariant-loop-i : goal.invariant-loop-i
invariant-loop-i l = l.replicas ≡ l.initial.replicas
