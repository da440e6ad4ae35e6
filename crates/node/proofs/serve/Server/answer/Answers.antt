use Rattle.std.proofs.Common.{sym, subst}
use Rattle.std.specs.Prelude.{OnOk}
use Rattle.node.specs.Serving.{Steps}
use Rattle.node.specs.declared.command.Command.{Command}
use Rattle.ball_model.specs.WorldText.{show_text}
use Rattle.world.proofs.ToldLemmas.{appends_of}
use Rattle.node.specs.NodeText.{the_lone_node}
use Rattle.node.proofs.StepLemmas.{figures_answered, show_answered}
use Rattle.node.proofs.StreamLemmas.{fails_of}
use Rattle.node.proofs.serve.Server.answer.Goals as goal

pub returns-in-Show-clause-step : goal.returns-in-Show-clause-step
returns-in-Show-clause-step g c =
    subst (λ (k : Command). OnOk c.tell_replica.result (Steps c.args.self.now.graph.now k c.args.request.now.body.now c.args.session.now c.args.session.now (g.W.Write.contents c.args.writer.now) (g.W.Write.contents c.tell_replica.new.writer)))
    (sym c.in-Show.is)
    (show_answered c.args.self.now.graph.now c.args.request.now.body.now c.args.session.now c.replica-replica.result.now c.partition-part.result (g.W.Write.contents c.args.writer.now) (g.W.Write.contents c.tell_replica.new.writer) c.tell_replica.result
    c.replica-replica.ensures c.partition-part.ensures
    (appends_of g.W.Write.contents g.W.CountedWrite.failed_calls c.replica-replica.result.now (λ j h. show_text j (the_lone_node c.partition-part.result) h) c.args.writer.now c.tell_replica.new.writer c.tell_replica.result c.tell_replica.ensures))

pub returns-in-Figures-clause-step : goal.returns-in-Figures-clause-step
returns-in-Figures-clause-step g c =
    subst (λ (k : Command). OnOk c.tell_own.result (Steps c.args.self.now.graph.now k c.args.request.now.body.now c.args.session.now c.args.session.now (g.W.Write.contents c.args.writer.now) (g.W.Write.contents c.tell_own.new.writer)))
    (sym c.in-Figures.is)
    (figures_answered c.args.self.now.graph.now c.args.request.now.body.now c.args.session.now c.replica-replica.result.now (g.W.Write.contents c.args.writer.now) (g.W.Write.contents c.tell_own.new.writer) c.tell_own.result
    c.replica-replica.ensures c.tell_own.ensures.done)

pub returns-in-Show-clause-write : goal.returns-in-Show-clause-write
returns-in-Show-clause-write g c =
    fails_of g.W.Write.contents g.W.CountedWrite.failed_calls c.replica-replica.result.now (λ j h. show_text j (the_lone_node c.partition-part.result) h) c.args.writer.now c.tell_replica.new.writer c.tell_replica.result c.tell_replica.ensures
