use Rattle.std.proofs.Common.{◌∙◌}
use Rattle.ball_model.specs.PlanValue.{mixing_of}
use Rattle.ball_model.specs.Report.{vertex_text}
use Rattle.world.proofs.ToldLemmas.{of_told}
use Rattle.node.proofs.own.tell_vertex.Goals as goal

pub returns-clause-done : goal.returns-clause-done
returns-clause-done g c =
    of_told g.W.Write.contents g.W.CountedWrite.failed_calls c.args.replica.now (λ j h. vertex_text (mixing_of j.plan) j.graph c.args.graph.now.labels h.superstep c.args.x) c.deref.result.now c.args.writer.now c.write_lines.new.writer c.write_lines.result
    (λ j h has. c.deref.ensures.value ∙ c.in_ok-text.ensures j h has)
    c.write_lines.ensures
