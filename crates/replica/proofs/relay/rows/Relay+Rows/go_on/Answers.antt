use Rattle.std.proofs.Common.{◌≡◌, ◌∙◌, rules, Some, None, refl}
use Rattle.std.specs.Arc.{arc_value}
use Rattle.replica.specs.Relay.{shown_of}
use Rattle.replica.proofs.relay.rows.Relay+Rows.go_on.Goals as goal

pub bring_up-own-requires-clause-room : goal.bring_up-own-requires-clause-room
unfolding shown_of
bring_up-own-requires-clause-room c =
    let shown : shown_of c.self.inside.own c.self.inside.out ≡ c.args.self.now = c.self.view_is in
    let some : c.self.inside.out ≡ Some c.in_ok-table.field-0 = search rules in
    let out : arc_value c.table.inside.table ≡ c.args.self.now = c.table.view_is ∙ (rw some at shown) in
    rw (← c.requires.width, ← c.requires.count, ← out) c.table.invariant.all

pub filled-stale-requires : goal.filled-stale-requires
unfolding shown_of
filled-stale-requires c =
    let shown : shown_of c.self.inside.own c.self.inside.out ≡ c.args.self.now = c.self.view_is in
    let some : c.self.inside.out ≡ Some c.in_ok-table.field-0 = search rules in
    let out : arc_value c.table.inside.table ≡ c.args.self.now = c.table.view_is ∙ (rw some at shown) in
    rw (c.requires.marked, ← out) c.table.invariant.each

pub returns-clause-differ : goal.returns-clause-differ
unfolding shown_of
returns-clause-differ c =
    let gone : c.take.new.self ≡ None = search rules in
    rw gone c.bring_up-own.ensures

pub returns-clause-before : goal.returns-clause-before
unfolding shown_of
returns-clause-before c =
    let shown : shown_of c.self.inside.own c.self.inside.out ≡ c.args.self.now = c.self.view_is in
    let some : c.self.inside.out ≡ Some c.in_ok-table.field-0 = search rules in
    let out : arc_value c.table.inside.table ≡ c.args.self.now = c.table.view_is ∙ (rw some at shown) in
    rw (c.filled-stale.ensures, out) refl
