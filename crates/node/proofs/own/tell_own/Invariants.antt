use Rattle.std.proofs.Common.{◌≡◌, ◌+◌, ◌*◌}
use Rattle.ball_model.specs.PlanValue.{mixing_of}
use Rattle.ball_model.specs.Report.{vertex_text}
use Rattle.world.proofs.TellLemmas.{first-texts}
use Rattle.world.specs.Tell.{AppendsOf}
use Rattle.node.proofs.own.tell_own.Given as goal

-- the lines of the first vertices were written
abbrev pub invariant-loop-i : goal.invariant-loop-i
invariant-loop-i g l = record {
  done : AppendsOf l.replica (λ j h. first-texts (vertex_text (mixing_of j.plan) j.graph l.graph.labels h.superstep) (λ i. i * l.replica.part.plan.parts + l.replica.part.number) l.i)
      (g.W.Write.contents l.initial.writer) (g.W.Write.contents l.writer);
  written : g.W.CountedWrite.failed_calls l.writer ≡ g.W.CountedWrite.failed_calls l.initial.writer;
}
