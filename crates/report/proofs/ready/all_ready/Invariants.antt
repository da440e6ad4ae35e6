use Rattle.std.proofs.Common.{◌≡◌, drop}
use Rattle.report.specs.Ready.{ready_from}
use Rattle.report.proofs.ready.all_ready.Given as goal

-- what is left to look at decides
abbrev pub invariant-loop-p : goal.invariant-loop-p
invariant-loop-p l = record {
  rest : ready_from l.plan l.superstep 0 l.replicas ≡ ready_from l.plan l.superstep l.p (drop l.p l.replicas);
}
