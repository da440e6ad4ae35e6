use Rattle.std.proofs.Common.{◌≡◌, ◌+◌, ◌-◌, false, arith, ap, ◌∙◌, subst}
use Rattle.std.proofs.lemmas.Bool.Decides.{nat_tests}
use Rattle.replica.proofs.Names.{OnOk, OnErr, State, copies-at}
use Rattle.replica.specs.Change.{Advances}
use Rattle.replica.specs.Level.{close_answer}
use Rattle.replica.specs.Seen.{IsState}
use Rattle.replica.proofs.LevelLemmas.Busy.{close_answer-is}
use Rattle.replica.proofs.ChangeLemmas.Close.{on_ok, close_stands}
use Rattle.replica.proofs.replica.Replica.close_by.Goals as goal
use Rattle.replica.proofs.replica.Replica.close_by.Goals.{After-close_level}

exact : (g : _) (c : After-close_level g) → c.close_level.result ≡ close_answer c.args.self.now
exact g c = c.close_level.ensures.exact ∙ ap close_answer c.self.view_is

advances : (g : _) (c : After-close_level g) → OnOk c.close_level.result (Advances c.args.self.now c.close_level.new.self.state)
advances g c = subst (λ (u : State). OnOk c.close_level.result (Advances u c.close_level.new.self.state)) c.self.view_is c.close_level.ensures.advances

state : (g : _) (c : After-close_level g) → IsState c.args.self.now
state g c = subst (λ (u : State). IsState u) c.self.view_is c.close_level.ensures.state

pub returns-clause-names : goal.returns-clause-names
returns-clause-names g c =
    on_ok c.close_level.result (advances g ((goal.at.returns-clause-names g c).After-close_level)) (λ n ok a s q. grind (arith, nat_tests, a.superstep, a.hears.sources q, a.early (s - (c.args.self.now.superstep + 1 + 1)) q, copies-at 64 q false))

pub returns-clause-answer : goal.returns-clause-answer
returns-clause-answer g c = λ j p t h. exact g ((goal.at.returns-clause-answer g c).After-close_level) ∙ close_answer-is j p t c.args.self.now h

pub returns-clause-stands : goal.returns-clause-stands
returns-clause-stands g c = λ j p t h.
    on_ok c.close_level.result (advances g ((goal.at.returns-clause-stands g c).After-close_level)) (λ n ok a. close_stands j p t n c.args.self.now c.close_level.new.self.state ((goal.at.returns-clause-stands g c).After-close_level).close_level.result h (state g ((goal.at.returns-clause-stands g c).After-close_level)) (exact g ((goal.at.returns-clause-stands g c).After-close_level)) ok a)

pub returns-clause-step : goal.returns-clause-step
returns-clause-step g c = λ j p. record {
  refused = subst (λ (u : State). OnErr c.close_level.result (c.close_level.new.self.state ≡ u)) c.self.view_is c.close_level.ensures.refused;
  names = returns-clause-names g c;
  answer = returns-clause-answer g c j p;
  stands = returns-clause-stands g c j p;
}
