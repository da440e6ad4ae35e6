use Rattle.std.proofs.Common.{◌≡◌, subst, rules}
use Rattle.replica.proofs.Names.{arc_value, take_of, State, content_of}
use Rattle.ball_model.specs.declared.names.Taken.TheVariants as taken
use Rattle.replica.specs.Change.{Receives}
use Rattle.replica.proofs.RunsLemmas.Call.{takes}
use Rattle.replica.proofs.replica.Replica.take.Goals as goal

pub returns-in-Ok-New-clause-step : goal.returns-in-Ok-New-clause-step
returns-in-Ok-New-clause-step c =
    let v = c.args.self.now in
    let b = arc_value c.args.batch in
    let f : c.in-Ok-New.field-0 ≡ taken.New = rw c.in-Ok-New.is at c.in-Ok-New.field-0-is in
    let e : c.answer-answer.result ≡ take_of v.part.plan v.part.number (content_of v) b.plan b.name = rw (← c.self.view_is, ← c.deref.ensures) c.answer-answer.ensures in
    let r : Receives b v c.receive.new.self.state = subst (λ (u : State). Receives b u c.receive.new.self.state) c.self.view_is c.receive.ensures.receives in
    takes v c.receive.new.self.state b c.answer-answer.result e (rw (c.in-Ok-New.is, f) r.names) r.stands

pub returns-in_default-clause-step : goal.returns-in_default-clause-step
returns-in_default-clause-step c =
    let v = c.args.self.now in
    let b = arc_value c.args.batch in
    let e : c.answer-answer.result ≡ take_of v.part.plan v.part.number (content_of v) b.plan b.name = rw (← c.self.view_is, ← c.deref.ensures) c.answer-answer.ensures in
    takes v v b c.answer-answer.result e (search rules) (λ j p t h is. h)
