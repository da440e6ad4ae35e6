use Rattle.std.proofs.Common.{◌≡◌, ap, refl, sym, ◌∙◌, subst, List, length, arith}
use Rattle.replica.proofs.Names.{arc_value, Option, TallyValue}
use Rattle.replica.specs.Relay.{DifferAt, IsRelay, Marked, shown_of}
use Rattle.replica.proofs.relay.tallies.take_up.Goals as goal
use Rattle.replica.proofs.relay.tallies.take_up.Goals.{After-deref}

-- what was handed out is what is shown
out_is : (c : After-deref) → arc_value c.out.inside.table ≡ shown_of c.args.own.now c.args.out
unfolding shown_of
out_is c = rw c.in-Some.is c.out.view_is

pub bring_up-requires-clause-behind : goal.bring_up-requires-clause-behind
bring_up-requires-clause-behind c =
    let shown = c.deref.ensures ∙ out_is (goal.at.bring_up-requires-clause-behind c).After-deref in
    subst (λ (b : Option (Marked (List TallyValue))). IsRelay DifferAt c.deref.result.now b) (sym c.take.ensures.value)
    (subst (λ (l : List TallyValue). IsRelay DifferAt l c.args.behind.now) (sym shown) c.requires)

pub returns-in-None-clause-own : goal.returns-in-None-clause-own
unfolding shown_of
returns-in-None-clause-own c = rw c.in-None.is refl

pub returns-in-Some-clause-own : goal.returns-in-Some-clause-own
returns-in-Some-clause-own c = c.bring_up.ensures ∙ c.deref.ensures ∙ out_is (goal.at.returns-in-Some-clause-own c).After-deref

pub returns-in-Some-clause-left : goal.returns-in-Some-clause-left
returns-in-Some-clause-left c =
    let is = out_is (goal.at.returns-in-Some-clause-left c).After-deref in
    (is, omega (arith, ap (length {A = TallyValue}) is, c.out.invariant.each))
