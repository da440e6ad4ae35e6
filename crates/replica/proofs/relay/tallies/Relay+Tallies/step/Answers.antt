use Rattle.std.proofs.Common.{◌≡◌, arith, rules, ap, sym, subst, ◌∙◌, List, None, length}
use Rattle.replica.proofs.Names.{get_or-map-range_with_len, TallyValue}
use Rattle.replica.specs.Level.{next_tallies}
use Rattle.replica.specs.Relay.{DifferAt, shown_of}
use Rattle.replica.proofs.TalliesLemmas.{length-next_tallies}
use Rattle.replica.proofs.relay.tallies.Relay+Tallies.step.Goals as goal
use Rattle.replica.proofs.relay.tallies.Relay+Tallies.step.Goals.{After-step}

-- what is shown
shown_is : (g : _) (c : After-step g) → shown_of c.self.inside.own c.take-shown.result ≡ c.args.self.now
shown_is g c = rw c.take-shown.ensures.value c.self.view_is

-- it is in the own table
own_is : (g : _) (c : After-step g) → c.go_on.new.own ≡ c.args.self.now
own_is g c = c.go_on.ensures.own_is ∙ shown_is g c

-- the own table, stepped
stepped : (g : _) (c : After-step g) → c.step.new.self ≡ next_tallies c.args.step.now.estimator.now c.args.step.now.t c.args.step.now.ahead.now.rows c.args.self.now (length c.args.step.now.ahead.now.rows)
stepped g c =
    c.step.ensures.tallies
    ∙ ap (λ (l : List TallyValue). next_tallies c.args.step.now.estimator.now c.args.step.now.t c.args.step.now.ahead.now.rows l (length c.args.step.now.ahead.now.rows)) (own_is g c)

pub invariant_of-self : goal.invariant_of-self
unfolding shown_of next_tallies
invariant_of-self g c =
    let at = (goal.at.invariant_of-self g c).After-step in
    let new = c.step.new.self in
    let gone : c.take-shown.new.self ≡ None = search rules in
    rw gone (c.go_on.ensures.behind_is new (subst (λ (l : List TallyValue). DifferAt c.args.step.now.marks.now l new) (sym (shown_is g at)) (grind (arith, length-next_tallies, get_or-map-range_with_len, stepped g at))))

pub returns : goal.returns
unfolding shown_of
returns g c =
    let at = (goal.at.returns g c).After-step in
    let gone : c.take-shown.new.self ≡ None = search rules in
    rw (gone, ← own_is g at) c.step.ensures
