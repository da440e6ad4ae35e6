use Rattle.std.proofs.Common.{◌≡◌, ◌++◌, map}
use Rattle.ball_model.specs.WorldText.{held_word}
use Rattle.world.specs.Answer.{names_at, spaced}
use Rattle.world.proofs.answer.put_names_at.Given as goal

abbrev pub invariant-loop-source : goal.invariant-loop-source
invariant-loop-source l = l.line.items ≡ l.fn.line.items ++ spaced (map held_word (names_at l.replica l.superstep l.source))
