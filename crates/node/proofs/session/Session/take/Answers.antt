use Rattle.std.proofs.Common.{◌≡◌, ◌∙◌, ap, sym, subst}
use Rattle.ball_model.specs.Content.{is_new}
use Rattle.ball_model.specs.World.{taken_answer}
use Rattle.replica.specs.Change.{take_answer}
use Rattle.std.specs.Arc.{arc_value}
use Rattle.ball_model.specs.State.{State}
use Rattle.node.specs.Turns.{Holds, IsBrought}
use Rattle.replica.specs.Change.{HoldsAfter}
use Rattle.std.specs.Prelude.{Result}
use Rattle.ball_model.specs.declared.names.Taken.{Taken}
use Rattle.ball_model.specs.declared.names.TakeError.{TakeError}
use Rattle.node.proofs.SessionLemmas.{taken_turns}
use Rattle.node.proofs.session.Session.take.Goals as goal

pub returns-clause-turned : goal.returns-clause-turned
returns-clause-turned c = λ j p h name k named is.
    taken_turns j p h name (arc_value c.args.batch) c.take-taken.result c.answer_to_take.result c.self.inside.replica c.take-taken.new.self
    (subst (λ (s : State). Holds j p h s) (sym c.self.view_is) k) named is c.take-taken.ensures.step c.limits.ensures.state c.answer_to_take.ensures

pub returns-clause-answer : goal.returns-clause-answer
returns-clause-answer c =
    c.answer_to_take.ensures ∙ ap taken_answer c.take-taken.ensures.answer
    ∙ ap (λ (s : State). taken_answer (take_answer s (arc_value c.args.batch))) c.self.view_is

pub returns-clause-unchanged : goal.returns-clause-unchanged
returns-clause-unchanged c = λ is.
    let same : c.take-taken.result ≡ take_answer c.args.self.now (arc_value c.args.batch) =
    c.take-taken.ensures.answer ∙ ap (λ (s : State). take_answer s (arc_value c.args.batch)) c.self.view_is in
    c.take-taken.ensures.unchanged (ap is_new same ∙ is) ∙ c.self.view_is

pub returns-clause-brought : goal.returns-clause-brought
returns-clause-brought c =
    subst (λ (s : State). IsBrought (arc_value c.args.batch) s c.take-taken.new.self) c.self.view_is
    (record {
      shown = c.take-taken.ensures.shown;
      names =
          subst (λ (t : Result Taken TakeError). HoldsAfter (is_new t) (arc_value c.args.batch).name c.self.inside.replica c.take-taken.new.self)
          c.take-taken.ensures.answer c.take-taken.ensures.names;
    })
