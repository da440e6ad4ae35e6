use Rattle.std.proofs.Common.{◌≡◌, ◌++◌, take, map}
use Rattle.world.specs.Answer.{spaced}
use Rattle.world.proofs.answer.put_spaced.Given as goal

abbrev pub invariant-loop-word : goal.invariant-loop-word
invariant-loop-word l = l.line.items ≡ l.fn.line.items ++ spaced (map (λ word. word.now) (take l.word-index l.words))
