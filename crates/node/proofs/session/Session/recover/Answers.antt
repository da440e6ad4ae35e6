use Rattle.std.proofs.lemmas.Result.{IfOk-from_err, on_err_weaker, on_ok_weaker}
use Rattle.ball_model.specs.declared.world.Answer.TheVariants as answer
use Rattle.ball_model.specs.Join.{join_of}
use Rattle.node.specs.Turns.{TakesBoth, TakesSpelled, TurnsTo}
use Rattle.node.proofs.SessionLemmas.{answered_if, answered_on, never_answered, says_checkpoint, says_no_checkpoint}
use Rattle.node.proofs.session.Session.recover.Goals as goal

pub returns-in-Ok-clause-turned : goal.returns-in-Ok-clause-turned
returns-in-Ok-clause-turned c = λ j p h d k given. c.take_over.ensures.turned j p h d k (c.in-Ok.ensures.back j p h d k given)

pub returns-in-Err-clause-turned : goal.returns-in-Err-clause-turned
returns-in-Err-clause-turned c = λ j p h d k given.
    IfOk-from_err c.no_checkpoint.result (TurnsTo j p (answer.Merged (join_of h d).superstep) (join_of h d) c.args.self.now)
    (c.no_checkpoint.ensures.memory (c.in-Err.ensures.back j p h d k given))

pub returns-in-Ok-clause-named : goal.returns-in-Ok-clause-named
returns-in-Ok-clause-named c = says_checkpoint c.args.self.now.part c.args.bytes.now c.take_over.result c.take_over.ensures.said c.in-Ok.ensures.whole

pub returns-in-Err-clause-named : goal.returns-in-Err-clause-named
returns-in-Err-clause-named c =
    says_no_checkpoint c.args.self.now.part c.args.bytes.now c.in-Err.error c.no_checkpoint.result c.no_checkpoint.ensures.some c.no_checkpoint.ensures.other c.in-Err.ensures.named

pub returns-in-Ok-clause-front : goal.returns-in-Ok-clause-front
returns-in-Ok-clause-front c = on_err_weaker c.take_over.result (λ _. c.in-Ok.ensures.front) c.take_over.ensures.refused

pub returns-in-Err-clause-front : goal.returns-in-Err-clause-front
returns-in-Err-clause-front c = on_err_weaker c.no_checkpoint.result c.in-Err.ensures.front c.no_checkpoint.ensures.only

pub returns-in-Ok-clause-taken : goal.returns-in-Ok-clause-taken
returns-in-Ok-clause-taken c =
    answered_on c.take_over.result (TakesSpelled c.args.bytes.now c.args.self.now c.take_over.new.self)
    (on_ok_weaker c.take_over.result (λ (takes : TakesBoth c.args.self.now c.in-Ok.other c.take_over.new.self). record {
      other = c.in-Ok.other;
      keepable = c.in-Ok.ensures.keepable;
      part_is = c.in-Ok.ensures.part;
      spells = c.in-Ok.ensures.spells;
      takes = takes;
    }) (c.take_over.ensures.taken c.in-Ok.ensures.part))

pub returns-in-Ok-clause-answer : goal.returns-in-Ok-clause-answer
returns-in-Ok-clause-answer c = answered_if c.take_over.result _ (c.take_over.ensures.answer c.in-Ok.ensures.part)

pub returns-in-Err-clause-taken : goal.returns-in-Err-clause-taken
returns-in-Err-clause-taken c = never_answered c.in-Err.error c.no_checkpoint.result _ c.no_checkpoint.ensures.some

pub returns-in-Err-clause-answer : goal.returns-in-Err-clause-answer
returns-in-Err-clause-answer c = never_answered c.in-Err.error c.no_checkpoint.result _ c.no_checkpoint.ensures.some
