use Rattle.std.proofs.Common.{◌+◌, ◌*◌}
use Rattle.ball_model.specs.WorldText.{row_text}
use Rattle.world.specs.Tell.{WritesOf}
use Rattle.world.proofs.TellLemmas.{first-texts}
use Rattle.world.proofs.tell.tell_vertices.Given as goal

-- the lines of the first vertices were written
abbrev pub invariant-loop-i : goal.invariant-loop-i
invariant-loop-i g l =
    WritesOf g.W.Write.contents g.W.CountedWrite.failed_calls l.replica
    (λ j h. first-texts (row_text j h.superstep) (λ i. i * l.replica.part.plan.parts + l.replica.part.number) l.i) l.initial.writer l.writer
