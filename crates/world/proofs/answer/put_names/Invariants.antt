use Rattle.std.proofs.Common.{◌≡◌, ◌++◌, map}
use Rattle.std.specs.List.{flat_map, range_with_len}
use Rattle.ball_model.specs.WorldText.{held_word}
use Rattle.world.specs.Answer.{names_at, spaced}
use Rattle.world.proofs.answer.put_names.Given as goal

abbrev pub invariant-loop-ahead : goal.invariant-loop-ahead
invariant-loop-ahead l = l.line.items ≡ l.fn.line.items ++ spaced (map held_word (flat_map (λ s. names_at l.replica s l.replica.part.plan.parts) (range_with_len l.superstep l.ahead)))
