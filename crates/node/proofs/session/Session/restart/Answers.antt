use Rattle.ball_model.specs.declared.world.Answer.TheVariants as answer
use Rattle.ball_model.specs.Held.{start_holding}
use Rattle.node.specs.Turns.{TurnsTo}
use Rattle.node.proofs.SessionLemmas.{restarted_to}
use Rattle.std.proofs.Common.{ap, sym, subst, ◌∙◌}
use Rattle.ball_model.specs.State.{State}
use Rattle.checkpoint.specs.Reading.{IsReplicaSpelling}
use Rattle.node.specs.declared.session.Reply.TheVariants as reply
use Rattle.node.proofs.SessionLemmas.{never_answered, says_no_checkpoint}
use Rattle.std.proofs.lemmas.Result.{IfOk-from_err, on_err_weaker}
use Rattle.node.proofs.session.Session.restart.Goals as goal

pub returns-in-Ok-clause-anew : goal.returns-in-Ok-clause-anew
returns-in-Ok-clause-anew c = λ j p h k none.
    restarted_to j p (start_holding j.plan p) c.put.new.self c.in-Ok.replica c.put.result (c.in-Ok.ensures.anew j p h k none) c.put.ensures.value c.put.ensures.answer

pub returns-in-Ok-clause-turned : goal.returns-in-Ok-clause-turned
returns-in-Ok-clause-turned c = λ j p h d k some given.
    restarted_to j p d c.put.new.self c.in-Ok.replica c.put.result (c.in-Ok.ensures.back j p h d k some given) c.put.ensures.value c.put.ensures.answer

pub returns-in-Err-clause-anew : goal.returns-in-Err-clause-anew
returns-in-Err-clause-anew c = λ j p h k none.
    IfOk-from_err c.no_checkpoint.result (TurnsTo j p (answer.Restarted (start_holding j.plan p).superstep) (start_holding j.plan p) c.args.self.now)
    (c.no_checkpoint.ensures.memory (c.in-Err.ensures.anew j p h k none))

pub returns-in-Err-clause-turned : goal.returns-in-Err-clause-turned
returns-in-Err-clause-turned c = λ j p h d k some given.
    IfOk-from_err c.no_checkpoint.result (TurnsTo j p (answer.Restarted d.superstep) d c.args.self.now)
    (c.no_checkpoint.ensures.memory (c.in-Err.ensures.back j p h d k some given))

pub returns-in-Ok-clause-named : goal.returns-in-Ok-clause-named
returns-in-Ok-clause-named c = λ some. c.in-Ok.ensures.whole some

pub returns-in-Err-clause-named : goal.returns-in-Err-clause-named
returns-in-Err-clause-named c = λ some.
    says_no_checkpoint c.args.self.now.part c.args.bytes.now c.in-Err.error c.no_checkpoint.result c.no_checkpoint.ensures.some c.no_checkpoint.ensures.other (c.in-Err.ensures.named some)

pub returns-in-Ok-clause-spelled : goal.returns-in-Ok-clause-spelled
returns-in-Ok-clause-spelled c = λ some answered. subst (λ (v : State). IsReplicaSpelling v c.args.bytes.now) (sym c.put.ensures.value) (c.in-Ok.ensures.spells some)

pub returns-in-Ok-clause-answer : goal.returns-in-Ok-clause-answer
returns-in-Ok-clause-answer c = λ answered.
    ap reply.Answered (c.put.ensures.answer ∙ ap (λ (v : State). answer.Restarted v.superstep) (sym c.put.ensures.value))

pub returns-in-Err-clause-spelled : goal.returns-in-Err-clause-spelled
returns-in-Err-clause-spelled c = λ some. never_answered c.in-Err.error c.no_checkpoint.result _ c.no_checkpoint.ensures.some

pub returns-in-Err-clause-answer : goal.returns-in-Err-clause-answer
returns-in-Err-clause-answer c = never_answered c.in-Err.error c.no_checkpoint.result _ c.no_checkpoint.ensures.some

pub returns-in-Err-clause-front : goal.returns-in-Err-clause-front
returns-in-Err-clause-front c = λ some. on_err_weaker c.no_checkpoint.result (c.in-Err.ensures.front some) c.no_checkpoint.ensures.only
