use Rattle.std.proofs.Common.{◌≡◌, rules, ◌∙◌, None, Some, subst, sym}
use Rattle.std.specs.Arc.{arc_value}
use Rattle.replica.specs.Relay.{shown_of}
use Rattle.replica.proofs.relay.Relay.assign.Goals as goal

pub copy_all-requires : goal.copy_all-requires
unfolding shown_of
copy_all-requires g c =
    let shown : shown_of c.self.inside.own c.self.inside.out ≡ c.args.self.now = c.self.view_is in
    let none : c.self.inside.out ≡ None = search rules in
    let own : c.self.inside.own ≡ c.args.self.now = rw none at shown in
    subst (λ t. g.T.Relayed.are_alike t c.args.other.now) (sym own) c.requires

pub copy_in-requires : goal.copy_in-requires
unfolding shown_of
copy_in-requires g c =
    let shown : shown_of c.self.inside.own c.self.inside.out ≡ c.args.self.now = c.self.view_is in
    let some : c.self.inside.out ≡ Some c.in-Some.out = search rules in
    let out : arc_value c.out.inside.table ≡ c.args.self.now = c.out.view_is ∙ (rw some at shown) in
    rw (← g.met.T.Relayed.as_large c.args.self.now c.args.other.now c.requires, ← out) c.out.invariant.all

pub returns-in-None : goal.returns-in-None
unfolding shown_of
returns-in-None g c =
    let gone : c.take.new.self ≡ None = search rules in
    rw gone c.copy_all.ensures

pub returns-in-Some : goal.returns-in-Some
unfolding shown_of
returns-in-Some g c =
    let gone : c.take.new.self ≡ None = search rules in
    rw gone c.copy_in.ensures
