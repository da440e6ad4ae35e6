use Rattle.std.proofs.Common.{◌≡◌, ◌++◌, take}
use Rattle.ball_model.specs.WorldText.{registers_word}
use Rattle.world.proofs.answer.put_registers.Given as goal

abbrev pub invariant-loop-register : goal.invariant-loop-register
invariant-loop-register l = l.line.items ≡ l.fn.line.items ++ registers_word (take l.register-index l.row)
