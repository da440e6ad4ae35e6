use Rattle.std.proofs.Common.{◌≡◌, None, Some, refl, rules}
use Rattle.replica.specs.Relay.{shown_of}
use Rattle.replica.proofs.relay.rows.take_in.Goals as goal

pub returns-in-None-clause-own : goal.returns-in-None-clause-own
unfolding shown_of
returns-in-None-clause-own c =
    let none : c.args.out.now ≡ None = search rules in
    rw none refl

pub returns-in-Some-clause-own : goal.returns-in-Some-clause-own
unfolding shown_of
returns-in-Some-clause-own c =
    let some : c.args.out.now ≡ Some c.in-Some.out = search rules in
    rw some c.copy_of.ensures
