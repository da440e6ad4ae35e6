use Rattle.std.proofs.Common.{sym, subst}
use Rattle.ball_model.specs.State.{State}
use Rattle.node.specs.Turns.{Holds}
use Rattle.node.proofs.SessionLemmas.{closed_turns}
use Rattle.node.proofs.session.Session.close.Goals as goal

pub returns-clause-turned : goal.returns-clause-turned
returns-clause-turned c = λ j p h k.
    closed_turns j p h c.close-closed.result c.answer_to_close.result c.self.inside.replica c.close-closed.new.self
    (subst (λ (s : State). Holds j p h s) (sym c.self.view_is) k) c.close-closed.ensures.step c.limits.ensures.state c.answer_to_close.ensures
