use Rattle.std.proofs.Common.{◌≡◌, ◌∙◌}
use Rattle.replica.specs.Relay.{shown_of}
use Rattle.replica.proofs.relay.Relay.get.Goals as goal

pub returns-in-Some : goal.returns-in-Some
unfolding shown_of
returns-in-Some g c =
    let shown : shown_of c.self.inside.own c.self.inside.out ≡ c.args.self.now = c.self.view_is in
    c.deref.ensures ∙ c.out.view_is ∙ (rw c.in-Some.is at shown)

pub returns-in-None : goal.returns-in-None
unfolding shown_of
returns-in-None g c =
    let shown : shown_of c.self.inside.own c.self.inside.out ≡ c.args.self.now = c.self.view_is in
    rw c.in-None.is at shown
