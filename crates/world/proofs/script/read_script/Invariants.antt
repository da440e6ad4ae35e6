use Rattle.std.proofs.Common.{length}
use Rattle.std.specs.Prelude.{IsOk}
use Rattle.ball_model.specs.WorldText.{script_of}
use Rattle.world.proofs.ScriptLemmas.{ReadSoFar}
use Rattle.world.proofs.script.read_script.Given as goal

abbrev pub invariant-loop-rest : goal.invariant-loop-rest
invariant-loop-rest l = IsOk (script_of l.script) → ReadSoFar l.script l.rest l.events.items

abbrev pub decreases-loop-rest : goal.decreases-loop-rest
decreases-loop-rest l = length l.rest
