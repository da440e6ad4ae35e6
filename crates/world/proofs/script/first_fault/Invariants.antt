use Rattle.std.proofs.Common.{length}
use Rattle.world.proofs.ScriptLemmas.{HasNoFaultSoFar}
use Rattle.world.proofs.script.first_fault.Given as goal

abbrev pub invariant-loop-rest : goal.invariant-loop-rest
invariant-loop-rest l = HasNoFaultSoFar l.script l.rest l.number

abbrev pub decreases-loop-rest : goal.decreases-loop-rest
decreases-loop-rest l = length l.rest
