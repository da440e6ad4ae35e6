use Rattle.std.proofs.Common.{◌∙◌, ap, sym, subst}
use Rattle.std.specs.Prelude.{OnOk}
use Rattle.ball_model.specs.State.{State}
use Rattle.node.specs.Turns.{Holds, TakesBoth}
use Rattle.node.proofs.session.Session.take_over.Goals as goal

pub returns-clause-turned : goal.returns-clause-turned
returns-clause-turned c = λ j p h d k l.
    c.merge-merged.ensures.turned j p h d k (subst (λ (s : State). Holds j p d s) (sym c.in_ok-copy.ensures) l)

pub returns-clause-taken : goal.returns-clause-taken
returns-clause-taken c = λ same.
    subst (λ (s : State). OnOk c.merge-merged.result (TakesBoth c.args.self.now s c.merge-merged.new.self)) c.in_ok-copy.ensures
    (c.merge-merged.ensures.taken (ap (λ (s : State). s.part) c.in_ok-copy.ensures ∙ same))

pub returns-clause-answer : goal.returns-clause-answer
returns-clause-answer c = λ same. c.merge-merged.ensures.answer (ap (λ (s : State). s.part) c.in_ok-copy.ensures ∙ same)
