use Rattle.std.proofs.Common.{◌+◌, true, ap, sym, ◌∙◌, subst}
use Rattle.replica.proofs.Names.{arc_value, PartValue}
use Rattle.replica.specs.Hearing.{HearingValue, IsQuiet, Lends, TakesBack, caught_up}
use Rattle.replica.specs.Tables.{GoFurther}
use Rattle.replica.proofs.HearingLemmas.Accumulator.{is_spare, made_whole}
use Rattle.replica.proofs.StaleLemmas.{Bare, as_wide, can_take_back, next_quiet, quiet_again, walked_on}
use Rattle.replica.proofs.TablesLemmas.{Advanced, Goes, advanced, by_index, can_go_further, can_hear_next, goes_whole}
use Rattle.replica.proofs.stage.Stage.walk_on.Goals as goal
use Rattle.replica.proofs.stage.Stage.walk_on.Goals.{After-lend-stale, After-walk, After-shift, After-take_back, After-hear_early}

-- what is lent
lent : (g : _) (c : After-lend-stale g) → Lends c.self.inside.tables.rows c.self.inside.tables.marks c.self.inside.hearing c.self.inside.spare c.lend-stale.result c.lend-stale.new.self c.lend-stale.new.spare
lent g c = c.lend-stale.ensures c.self.inside.tables.rows c.self.inside.tables.marks (is_spare c.self.inside c.self.invariant)

-- where it goes on, whatever is left beside what is lent
on : (g : _) (c : After-lend-stale g) (left : HearingValue) → TakesBack c.self.inside.tables.rows c.self.inside.hearing c.self.inside.spare (caught_up c.lend-stale.result c.self.inside.tables.rows c.lend-stale.new.spare) left → Goes (record c.self.inside { hearing = caught_up c.lend-stale.result c.self.inside.tables.rows c.lend-stale.new.spare; spare = left }) c.args.self.now.state c.args.targets.now c.args.estimator.now c.args.weights.now
on g c left back = goes_whole (record c.self.inside { hearing = caught_up c.lend-stale.result c.self.inside.tables.rows c.lend-stale.new.spare; spare = left }) c.args.self.now c.args.targets.now c.args.estimator.now c.args.weights.now (made_whole c.self.inside c.args.self.now (caught_up c.lend-stale.result c.self.inside.tables.rows c.lend-stale.new.spare) left c.self.invariant c.self.view_is back) c.requires.goes_on c.requires.going

-- that it went further, by the part as it stands
went : (g : _) (c : After-walk g) → GoFurther (arc_value c.self.inside.part) c.args.estimator.now c.self.inside.superstep c.self.inside.tables c.walk.new.self (caught_up c.lend-stale.result c.self.inside.tables.rows c.lend-stale.new.spare) (caught_up true c.walk.new.self.rows c.walk.new.hearing) c.walk.new.weights
went g c = subst (λ (a : PartValue). GoFurther a c.args.estimator.now c.self.inside.superstep c.self.inside.tables c.walk.new.self (caught_up c.lend-stale.result c.self.inside.tables.rows c.lend-stale.new.spare) (caught_up true c.walk.new.self.rows c.walk.new.hearing) c.walk.new.weights) c.deref-2.ensures c.walk.ensures.further

-- nothing is heard then
bare : (g : _) (c : After-walk g) → Lends c.self.inside.tables.rows c.self.inside.tables.marks c.self.inside.hearing c.self.inside.spare c.lend-stale.result c.lend-stale.new.self c.lend-stale.new.spare → GoFurther (arc_value c.self.inside.part) c.args.estimator.now c.self.inside.superstep c.self.inside.tables c.walk.new.self (caught_up c.lend-stale.result c.self.inside.tables.rows c.lend-stale.new.spare) (caught_up true c.walk.new.self.rows c.walk.new.hearing) c.walk.new.weights → Bare c.walk.new.self.rows c.lend-stale.new.self
bare g c given is = record { none = given.takes.none; heard = given.heard; change = given.change; width = given.takes.width ∙ as_wide is.hears is.next }

-- what was lent, with what is left once it is taken back
back : (g : _) (c : After-take_back g) → Lends c.self.inside.tables.rows c.self.inside.tables.marks c.self.inside.hearing c.self.inside.spare c.lend-stale.result c.lend-stale.new.self c.lend-stale.new.spare → GoFurther (arc_value c.self.inside.part) c.args.estimator.now c.self.inside.superstep c.self.inside.tables c.walk.new.self (caught_up c.lend-stale.result c.self.inside.tables.rows c.lend-stale.new.spare) (caught_up true c.walk.new.self.rows c.walk.new.hearing) c.walk.new.weights → TakesBack c.self.inside.tables.rows c.self.inside.hearing c.self.inside.spare (caught_up c.lend-stale.result c.self.inside.tables.rows c.lend-stale.new.spare) c.take_back.new.spare
back g c given is = record { same = given.takes.same; count = given.takes.count; width = c.take_back.ensures.width ∙ sym (as_wide is.hears is.next); none = c.take_back.ensures.none }

-- nothing is heard beside the rows then
quiet : (g : _) (c : After-take_back g) → Bare c.walk.new.self.rows c.lend-stale.new.self → IsQuiet c.walk.new.self.rows c.take_back.new.self
quiet g c is = quiet_again c.walk.new.self.rows c.walk.new.self.marks c.lend-stale.new.self c.walk.new.hearing c.take_back.new.self c.take_back.new.spare is c.walk.ensures.stale c.take_back.ensures

pub walk-requires-clause-can : goal.walk-requires-clause-can
walk-requires-clause-can g c =
    let at = (goal.at.walk-requires-clause-can g c).After-lend-stale in
    rw c.deref-2.ensures (can_go_further (record c.self.inside { hearing = caught_up c.lend-stale.result c.self.inside.tables.rows c.lend-stale.new.spare; spare = c.lend-stale.new.self }) c.args.self.now.state c.args.targets.now c.args.estimator.now c.args.weights.now (on g at c.lend-stale.new.self (lent g at).takes))

pub walk-requires-clause-stale : goal.walk-requires-clause-stale
walk-requires-clause-stale g c = (lent g (goal.at.walk-requires-clause-stale g c).After-lend-stale).differ

-- ---- no other partition

alone : (g : _) (c : After-shift g) → Lends c.self.inside.tables.rows c.self.inside.tables.marks c.self.inside.hearing c.self.inside.spare c.lend-stale.result c.lend-stale.new.self c.lend-stale.new.spare → Goes (record c.self.inside { hearing = caught_up c.lend-stale.result c.self.inside.tables.rows c.lend-stale.new.spare; spare = c.lend-stale.new.self }) c.args.self.now.state c.args.targets.now c.args.estimator.now c.args.weights.now → GoFurther (arc_value c.self.inside.part) c.args.estimator.now c.self.inside.superstep c.self.inside.tables c.walk.new.self (caught_up c.lend-stale.result c.self.inside.tables.rows c.lend-stale.new.spare) (caught_up true c.walk.new.self.rows c.walk.new.hearing) c.walk.new.weights → Bare c.walk.new.self.rows c.lend-stale.new.self → Advanced (record c.self.inside { superstep = c.self.inside.superstep + 1; tables = c.walk.new.self; hearing = c.lend-stale.new.self; spare = c.walk.new.hearing; early = c.shift.new.self }) c.args.self.now.state c.args.targets.now c.args.estimator.now c.walk.new.weights
alone g c given goes is nothing =
    walked_on (record c.self.inside { hearing = caught_up c.lend-stale.result c.self.inside.tables.rows c.lend-stale.new.spare; spare = c.lend-stale.new.self }) c.args.self.now.state c.plan.result.now c.args.targets.now c.args.estimator.now c.walk.new.self is.between c.walk.new.hearing c.lend-stale.new.self c.args.weights.now c.walk.new.weights c.shift.new.self goes (c.plan.ensures ∙ ap (λ (a : PartValue). a.plan) c.deref.ensures) (sym c.parts.ensures.value ∙ c.if-parts-eq1.true) (by_index goes.index is.hears) is.next c.walk.ensures.stale nothing c.shift.ensures

pub invariant_of-self : goal.invariant_of-self
invariant_of-self g c =
    let at = goal.at.invariant_of-self g c in
    let given = lent g at.After-lend-stale in
    let is = went g at.After-walk in
    (alone g at.After-shift given (on g at.After-lend-stale c.lend-stale.new.self given.takes) is (bare g at.After-walk given is)).limits

pub returns-then-parts-eq1 : goal.returns-then-parts-eq1
returns-then-parts-eq1 g c =
    let at = goal.at.returns-then-parts-eq1 g c in
    let given = lent g at.After-lend-stale in
    let is = went g at.After-walk in
    let made = alone g at.After-shift given (on g at.After-lend-stale c.lend-stale.new.self given.takes) is (bare g at.After-walk given is) in
    record { advances = made.advances; goes_on = made.goes_on }

-- ---- other partitions

pub take_back-requires-clause-spare : goal.take_back-requires-clause-spare
take_back-requires-clause-spare g c =
    let at = goal.at.take_back-requires-clause-spare g c in
    can_take_back c.walk.new.self.rows c.walk.new.self.marks c.lend-stale.new.self c.walk.new.hearing (bare g at.After-walk (lent g at.After-lend-stale) (went g at.After-walk)) c.walk.ensures.stale

pub hear_early-requires : goal.hear_early-requires
hear_early-requires g c =
    let at = goal.at.hear_early-requires g c in
    let given = lent g at.After-lend-stale in
    let is = went g at.After-walk in
    let goes = on g at.After-lend-stale c.take_back.new.spare (back g at.After-take_back given is) in
    can_hear_next (record c.self.inside { hearing = caught_up c.lend-stale.result c.self.inside.tables.rows c.lend-stale.new.spare; spare = c.take_back.new.spare }) c.args.self.now.state c.plan.result.now c.args.targets.now c.args.estimator.now c.walk.new.self is.between c.take_back.new.self c.args.weights.now c.walk.new.weights goes (c.plan.ensures ∙ ap (λ (a : PartValue). a.plan) c.deref.ensures) (by_index goes.index is.hears) (next_quiet c.take_back.new.self is.next (quiet g at.After-take_back (bare g at.After-walk given is)))

-- what it is then
beside : (g : _) (c : After-hear_early g) → Goes (record c.self.inside { hearing = caught_up c.lend-stale.result c.self.inside.tables.rows c.lend-stale.new.spare; spare = c.take_back.new.spare }) c.args.self.now.state c.args.targets.now c.args.estimator.now c.args.weights.now → GoFurther (arc_value c.self.inside.part) c.args.estimator.now c.self.inside.superstep c.self.inside.tables c.walk.new.self (caught_up c.lend-stale.result c.self.inside.tables.rows c.lend-stale.new.spare) (caught_up true c.walk.new.self.rows c.walk.new.hearing) c.walk.new.weights → IsQuiet c.walk.new.self.rows c.take_back.new.self → Advanced (record c.self.inside { superstep = c.self.inside.superstep + 1; tables = c.walk.new.self; hearing = c.hear_early.new.self; spare = c.take_back.new.spare; early = c.hear_early.new.early }) c.args.self.now.state c.args.targets.now c.args.estimator.now c.walk.new.weights
beside g c goes is again =
    advanced (record c.self.inside { hearing = caught_up c.lend-stale.result c.self.inside.tables.rows c.lend-stale.new.spare; spare = c.take_back.new.spare }) c.args.self.now.state c.plan.result.now c.args.targets.now c.args.estimator.now c.walk.new.self is.between c.take_back.new.self c.hear_early.new.self c.args.weights.now c.walk.new.weights c.hear_early.new.early goes (c.plan.ensures ∙ ap (λ (a : PartValue). a.plan) c.deref.ensures) (by_index goes.index is.hears) (next_quiet c.take_back.new.self is.next again) c.hear_early.ensures

pub invariant_of-self-2 : goal.invariant_of-self-2
invariant_of-self-2 g c =
    let at = goal.at.invariant_of-self-2 g c in
    let given = lent g at.After-lend-stale in
    let is = went g at.After-walk in
    (beside g at.After-hear_early (on g at.After-lend-stale c.take_back.new.spare (back g at.After-take_back given is)) is (quiet g at.After-take_back (bare g at.After-walk given is))).limits

pub returns : goal.returns
returns g c =
    let at = goal.at.returns g c in
    let given = lent g at.After-lend-stale in
    let is = went g at.After-walk in
    let made = beside g at.After-hear_early (on g at.After-lend-stale c.take_back.new.spare (back g at.After-take_back given is)) is (quiet g at.After-take_back (bare g at.After-walk given is)) in
    record { advances = made.advances; goes_on = made.goes_on }
