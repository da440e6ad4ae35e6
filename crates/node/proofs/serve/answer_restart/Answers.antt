use Rattle.std.proofs.Common.{ℕ, List, ap, refl}
use Rattle.std.specs.Prelude.{Ok}
use Rattle.std.proofs.lemmas.Result.{on_ok_weaker}
use Rattle.std.specs.Io.KnownBytes.{Appends}
use Rattle.node.specs.Turns.{reply_text}
use Rattle.node.specs.declared.session.Reply.{Reply}
use Rattle.node.specs.declared.command.Command.TheVariants as order
use Rattle.node.proofs.StepLemmas.{restart_steps, steps_told}
use Rattle.node.proofs.serve.answer_restart.Goals as goal

pub returns-clause-step : goal.returns-clause-step
returns-clause-step g c = λ network n.
    let r : Reply = c.in_ok-reply.reply in
    let text : List ℕ = reply_text r in
    on_ok_weaker c.tell.result
    (λ (told : Appends (g.W.Write.contents c.args.writer.now) (g.W.Write.contents c.tell.new.writer) text).
    steps_told network (order.Restart n) c.args.body.now c.args.session.now c.restart.new.self text (g.W.Write.contents c.args.writer.now) (g.W.Write.contents c.tell.new.writer) told
    (restart_steps network n c.args.body.now c.args.session.now c.restart.new.self r text refl c.in_ok-reply.ensures.anew c.in_ok-reply.ensures.turned
    c.in_ok-reply.ensures.named (λ e same. c.in_ok-reply.ensures.unread e (ap Ok same))))
    c.tell.ensures.done
