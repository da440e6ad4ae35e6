use Rattle.std.proofs.Common.{◌+◌, ap, ◌∙◌, subst}
use Rattle.replica.proofs.Names.{arc_value, PartValue}
use Rattle.replica.specs.declared.stage.Stage.TheInside as stage
use Rattle.replica.specs.Tables.{HearsOwn}
use Rattle.replica.proofs.HearingLemmas.Accumulator.{is_spare, made_whole}
use Rattle.replica.proofs.TablesLemmas.{Advanced, Goes, advanced, can_hear_next, can_hear_own, can_step, goes_whole}
use Rattle.replica.proofs.stage.Stage.spread_on.Goals as goal
use Rattle.replica.proofs.stage.Stage.spread_on.Goals.{After-take_back, After-hear_own, After-hear_early}

-- what it is once stale accumulators are taken back
abbrev whole : (g : _) (c : After-take_back g) → stage.Inside
whole g c = record c.self.inside { hearing = c.take_back.new.self; spare = c.take_back.new.spare }

-- where it goes on
on : (g : _) (c : After-take_back g) → Goes (whole g c) c.args.self.now.state c.args.targets.now c.args.estimator.now c.args.weights.now
on g c = goes_whole (whole g c) c.args.self.now c.args.targets.now c.args.estimator.now c.args.weights.now (made_whole c.self.inside c.args.self.now c.take_back.new.self c.take_back.new.spare c.self.invariant c.self.view_is c.take_back.ensures) c.requires.goes_on c.requires.going

-- the own rows are heard
heard : (g : _) (c : After-hear_own g) → HearsOwn (arc_value c.self.inside.part) c.args.targets.now c.self.inside.tables c.take_back.new.self c.hear_own.new.self
heard g c = subst (λ (a : PartValue). HearsOwn a c.args.targets.now c.self.inside.tables c.take_back.new.self c.hear_own.new.self) c.deref-2.ensures c.hear_own.ensures

-- what it is then
abbrev after : (g : _) (c : After-hear_early g) → stage.Inside
after g c = record { part = c.self.inside.part; superstep = c.self.inside.superstep + 1; tables = c.next.new.self; hearing = c.hear_early.new.self; spare = c.take_back.new.spare; early = c.hear_early.new.early }

made : (g : _) (c : After-hear_early g) → Goes (record c.self.inside { hearing = c.take_back.new.self; spare = c.take_back.new.spare }) c.args.self.now.state c.args.targets.now c.args.estimator.now c.args.weights.now → HearsOwn (arc_value c.self.inside.part) c.args.targets.now c.self.inside.tables c.take_back.new.self c.hear_own.new.self → Advanced (after g c) c.args.self.now.state c.args.targets.now c.args.estimator.now c.next.new.weights
made g c goes own = advanced (record c.self.inside { hearing = c.take_back.new.self; spare = c.take_back.new.spare }) c.args.self.now.state c.plan.result.now c.args.targets.now c.args.estimator.now c.next.new.self c.hear_own.new.self c.next.new.hearing c.hear_early.new.self c.args.weights.now c.next.new.weights c.hear_early.new.early goes (c.plan.ensures ∙ ap (λ (a : PartValue). a.plan) c.deref.ensures) own c.next.ensures c.hear_early.ensures

pub take_back-requires-clause-spare : goal.take_back-requires-clause-spare
take_back-requires-clause-spare g c = is_spare c.self.inside c.self.invariant

pub hear_own-requires : goal.hear_own-requires
hear_own-requires g c =
    let at = (goal.at.hear_own-requires g c).After-take_back in
    rw c.deref-2.ensures (can_hear_own (whole g at) c.args.self.now.state c.args.targets.now c.args.estimator.now c.args.weights.now (on g at))

pub next-requires-clause-can : goal.next-requires-clause-can
next-requires-clause-can g c =
    let at = goal.at.next-requires-clause-can g c in
    can_step (whole g at.After-take_back) c.args.self.now.state c.args.targets.now c.args.estimator.now c.hear_own.new.self c.args.weights.now (on g at.After-take_back) (heard g at.After-hear_own).ahead

pub hear_early-requires : goal.hear_early-requires
hear_early-requires g c =
    let at = goal.at.hear_early-requires g c in
    can_hear_next (whole g at.After-take_back) c.args.self.now.state c.plan.result.now c.args.targets.now c.args.estimator.now c.next.new.self c.hear_own.new.self c.next.new.hearing c.args.weights.now c.next.new.weights (on g at.After-take_back) (c.plan.ensures ∙ ap (λ (a : PartValue). a.plan) c.deref.ensures) (heard g at.After-hear_own) c.next.ensures

pub invariant_of-self : goal.invariant_of-self
invariant_of-self g c = let at = goal.at.invariant_of-self g c in (made g at.After-hear_early (on g at.After-take_back) (heard g at.After-hear_own)).limits

pub returns : goal.returns
returns g c =
    let at = goal.at.returns g c in
    let is = made g at.After-hear_early (on g at.After-take_back) (heard g at.After-hear_own) in
    record { advances = is.advances; goes_on = is.goes_on }
