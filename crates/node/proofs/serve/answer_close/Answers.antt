use Rattle.std.proofs.Common.{ℕ, List, refl}
use Rattle.std.proofs.lemmas.Result.{on_ok_weaker}
use Rattle.std.specs.Io.KnownBytes.{Appends}
use Rattle.node.specs.Turns.{reply_text}
use Rattle.node.specs.declared.session.Reply.{Reply}
use Rattle.node.specs.declared.command.Command.TheVariants as order
use Rattle.node.specs.declared.session.Reply.TheVariants as reply
use Rattle.node.proofs.StepLemmas.{close_steps, steps_told}
use Rattle.node.proofs.serve.answer_close.Goals as goal

pub returns-clause-step : goal.returns-clause-step
returns-clause-step g c = λ network body.
    let r : Reply = reply.Answered c.close-answer.result in
    let text : List ℕ = reply_text r in
    on_ok_weaker c.tell.result
    (λ (told : Appends (g.W.Write.contents c.args.writer.now) (g.W.Write.contents c.tell.new.writer) text).
    steps_told network order.Close body c.args.session.now c.close-answer.new.self text (g.W.Write.contents c.args.writer.now) (g.W.Write.contents c.tell.new.writer) told
    (close_steps network body c.args.session.now c.close-answer.new.self r text refl c.close-answer.ensures.turned))
    c.tell.ensures.done
