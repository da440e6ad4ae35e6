use Rattle.std.proofs.Common.{◌≡◌, take, min}
use Rattle.ball_model.specs.WorldText.{value_from}
use Rattle.world.proofs.script.value_to.Given as goal

abbrev pub invariant-loop-byte : goal.invariant-loop-byte
invariant-loop-byte l = l.value ≡ min (value_from 0 (take l.byte-index l.word)) l.bound
