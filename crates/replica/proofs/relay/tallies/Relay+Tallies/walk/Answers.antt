use Rattle.std.proofs.Common.{◌≡◌, arith, rules, ap, sym, subst, ◌∙◌, List, None, length}
use Rattle.replica.proofs.Names.{Option, TallyValue}
use Rattle.replica.specs.Relay.{DifferAt, IsRelay, Marked, shown_of}
use Rattle.replica.specs.Hearing.{fresh_table}
use Rattle.replica.specs.Walk.{Walks}
use Rattle.replica.proofs.LevelLemmas.Next.{lasts_count}
use Rattle.replica.proofs.TalliesLemmas.{has_marks}
use Rattle.replica.proofs.WalkedLemmas.{walked_differ}
use Rattle.replica.proofs.relay.tallies.Relay+Tallies.walk.Goals as goal
use Rattle.replica.proofs.relay.tallies.Relay+Tallies.walk.Goals.{After-take_up-left, After-walk-gain}

-- what is shown
shown_is : (g : _) (c : After-take_up-left g) → shown_of c.self.inside.own c.take-shown.result ≡ c.args.self.now
shown_is g c = rw c.take-shown.ensures.value c.self.view_is

-- it is in the own table
own_is : (g : _) (c : After-take_up-left g) → c.take_up-left.new.own ≡ c.args.self.now
own_is g c = c.take_up-left.ensures.own ∙ shown_is g c

-- as many are shown as there are marks
count : (g : _) (c : After-walk-gain g) → shown_of c.self.inside.own c.take-shown.result ≡ c.args.self.now → length c.walk-gain.new.touched ≡ length (shown_of c.self.inside.own c.take-shown.result)
count g c shown =
    let can = c.requires.can in
    c.walk-gain.auto.touched ∙ can.pull.each ∙ sym can.pull.can.count ∙ sym (lasts_count _ _ _ can.lasts) ∙ ap (length {A = TallyValue}) (sym shown)

pub walk-gain-requires-clause-can : goal.walk-gain-requires-clause-can
walk-gain-requires-clause-can g c = rw (own_is g (goal.at.walk-gain-requires-clause-can g c).After-take_up-left) c.requires.can

pub leave-requires-clause-room : goal.leave-requires-clause-room
leave-requires-clause-room g c =
    let at = goal.at.leave-requires-clause-room g c in
    grind (arith, count g at.After-walk-gain (shown_is g at.After-take_up-left), c.take_up-left.ensures.left)

pub leave-requires-clause-behind : goal.leave-requires-clause-behind
leave-requires-clause-behind g c =
    let at = goal.at.leave-requires-clause-behind g c in
    let shown = shown_is g at.After-take_up-left in
    λ none. rw (c.take_up-left.ensures.behind none)
    (has_marks (shown_of c.self.inside.own c.take-shown.result) c.self.inside.behind _ (count g at.After-walk-gain shown) (subst (λ (l : List TallyValue). IsRelay DifferAt l c.self.inside.behind) (c.self.view_is ∙ sym shown) c.self.invariant))

pub invariant_of-self : goal.invariant_of-self
unfolding shown_of
invariant_of-self g c =
    let at = goal.at.invariant_of-self g c in
    let shown = shown_is g at.After-take_up-left in
    let gone : c.take-shown.new.self ≡ None = search rules in
    let walk = c.args.walk.now in
    let own = own_is g at.After-take_up-left in
    let walks : Walks walk.estimator.now walk.t walk.pull.part.now walk.pull.rows.now walk.pull.marks.now (fresh_table walk.stale walk.pull.rows.now c.args.accumulated.now) c.walk-gain.new.accumulated c.args.touched.now c.walk-gain.new.touched c.args.self.now c.walk-gain.new.self c.walk-gain.new.weights c.walk-gain.result = rw (← own) c.walk-gain.ensures in
    let differ : DifferAt c.walk-gain.new.touched c.args.self.now c.walk-gain.new.self = walked_differ walk.estimator.now walk.t walk.pull.part.now walk.pull.rows.now walk.pull.marks.now (fresh_table walk.stale walk.pull.rows.now c.args.accumulated.now) c.walk-gain.new.accumulated c.args.touched.now c.walk-gain.new.touched c.args.weights.now c.walk-gain.new.weights c.args.self.now c.walk-gain.new.self c.walk-gain.result c.requires.can walks in
    rw gone (c.leave.ensures (shown_of c.self.inside.own c.take-shown.result) c.walk-gain.new.self (subst (λ (l : List TallyValue). DifferAt c.walk-gain.new.touched l c.walk-gain.new.self) (sym shown) differ)
    (grind (arith, c.take_up-left.ensures.left))
    (λ none. subst (λ (b : Option (Marked (List TallyValue))). IsRelay DifferAt (shown_of c.self.inside.own c.take-shown.result) b) (sym (c.take_up-left.ensures.behind none))
    (subst (λ (l : List TallyValue). IsRelay DifferAt l c.self.inside.behind) (c.self.view_is ∙ sym shown) c.self.invariant)))

pub returns : goal.returns
unfolding shown_of
returns g c =
    let at = (goal.at.returns g c).After-take_up-left in
    let gone : c.take-shown.new.self ≡ None = search rules in
    rw (gone, ← own_is g at) c.walk-gain.ensures
