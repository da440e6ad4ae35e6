use Rattle.std.proofs.Common.{◌≡◌, ◌∙◌, rules, None, Some}
use Rattle.std.specs.Arc.{arc_value}
use Rattle.replica.specs.Relay.{shown_of}
use Rattle.replica.proofs.relay.Relay.give_back.Goals as goal

pub returns-in-Ok : goal.returns-in-Ok
unfolding shown_of
returns-in-Ok g c =
    let shown : shown_of c.self.inside.own c.self.inside.out ≡ c.args.self.now = c.self.view_is in
    let gone : c.take-out.new.self ≡ None = search rules in
    let some : c.self.inside.out ≡ Some (arc_value c.in-Some.field-0.table) = search rules in
    rw gone (c.in-Ok.ensures.ok ∙ (rw some at shown))
