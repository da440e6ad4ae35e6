use Rattle.std.proofs.Common.{◌≡◌, ◌∙◌, rules, None}
use Rattle.replica.specs.Relay.{IsRelay, shown_of}
use Rattle.replica.proofs.relay.Relay.hand_out.Goals as goal

pub invariant_of-self-2 : goal.invariant_of-self-2
unfolding shown_of
invariant_of-self-2 g c =
    let none : c.self.inside.out ≡ None = search rules in
    let is : IsRelay g.T.Relayed.differ c.self.inside.own c.self.inside.behind = rw none at c.self.invariant in
    rw c.in_ok-table.ensures.out is

pub returns : goal.returns
unfolding shown_of
returns g c =
    let shown : shown_of c.self.inside.own c.self.inside.out ≡ c.args.self.now = c.self.view_is in
    let none : c.self.inside.out ≡ None = search rules in
    c.in_ok-table.ensures.out ∙ (rw none at shown)
