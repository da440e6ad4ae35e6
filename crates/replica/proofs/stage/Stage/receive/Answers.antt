use Rattle.std.proofs.Common.{◌≡◌, ap, sym, ◌∙◌, subst, arith, inl}
use Rattle.replica.proofs.Names.{arc_value, BatchValue, IsBatch, State}
use Rattle.replica.specs.declared.stage.Stage.TheInside as stage
use Rattle.replica.specs.Hearing.{HearsByIndex}
use Rattle.replica.specs.Stage.{CanGoOn, StageValue}
use Rattle.replica.specs.Seen.{HasIndex, state_of}
use Rattle.replica.proofs.HearingLemmas.Accumulator.{Whole, can_go_on, had_room, is_spare, made_whole, state_is}
use Rattle.replica.proofs.LevelLemmas.Over.{kept_index}
use Rattle.replica.proofs.SeenLemmas.Receive.{Hearable, Heard, Kept, hearable_whole, heard_now, kept_later}
use Rattle.replica.proofs.stage.Stage.receive.Goals as goal
use Rattle.replica.proofs.stage.Stage.receive.Goals.{After-deref-then-name-self, After-hear, After-keep}

-- what it is once stale accumulators are taken back
abbrev whole : After-deref-then-name-self → stage.Inside
whole c = record c.self.inside { hearing = c.take_back.new.self; spare = c.take_back.new.spare }

is_whole : (c : After-deref-then-name-self) → Whole (whole c) c.args.self.now.state (CanGoOn c.args.self.now)
is_whole c = made_whole c.self.inside c.args.self.now c.take_back.new.self c.take_back.new.spare c.self.invariant c.self.view_is c.take_back.ensures

-- a batch of the superstep can be heard
now : (c : After-deref-then-name-self) → Hearable (whole c) c.args.self.now.state (arc_value c.args.batch) c.args.targets.now
now c =
    let here : c.name-name.result.superstep ≡ c.self.inside.superstep = omega (arith, c.if-name-self.true) in
    hearable_whole (whole c) c.args.self.now (arc_value c.args.batch) c.args.targets.now c.name-name.result (is_whole c) c.requires.by.goes_on (subst (λ (b : BatchValue). IsBatch b) c.deref.ensures c.name-name.ensures.batch) c.requires.new c.requires.by.index (c.name-name.ensures.value ∙ ap (λ (x : BatchValue). x.name) c.deref.ensures) here

-- what it is then
abbrev after : After-hear → stage.Inside
after c = record c.self.inside { hearing = c.hear.new.self; spare = c.take_back.new.spare }

-- it is heard
heard : (c : After-hear) → Whole (record c.self.inside { hearing = c.take_back.new.self; spare = c.take_back.new.spare }) c.args.self.now.state (CanGoOn c.args.self.now) → Hearable (record c.self.inside { hearing = c.take_back.new.self; spare = c.take_back.new.spare }) c.args.self.now.state (arc_value c.args.batch) c.args.targets.now → Heard (after c) c.args.self.now.state (arc_value c.args.batch)
heard c is h = heard_now (record c.self.inside { hearing = c.take_back.new.self; spare = c.take_back.new.spare }) c.args.self.now.state (arc_value c.args.batch) c.args.targets.now c.hear.new.self is.limits h (rw (← c.deref-then-name-self.ensures) c.hear.ensures)

-- a later one is kept
kept : (c : After-keep) → Kept (record c.self.inside { early = c.keep.new.self }) c.args.self.now.state (arc_value c.args.batch)
kept c = kept_later c.self.inside c.args.self.now.state (arc_value c.args.batch) c.name-name.result c.keep.new.self c.self.invariant (subst (λ (k : StageValue). CanGoOn k) (sym c.self.view_is) c.requires.by.goes_on) (state_is c.self.view_is) (subst (λ (b : BatchValue). IsBatch b) c.deref.ensures c.name-name.ensures.batch) c.requires.new (c.name-name.ensures.value ∙ ap (λ (x : BatchValue). x.name) c.deref.ensures) c.if-name-self.false c.keep.ensures.table c.keep.ensures.kept

pub take_back-requires-clause-spare : goal.take_back-requires-clause-spare
take_back-requires-clause-spare c = is_spare c.self.inside c.self.invariant

pub hear-requires : goal.hear-requires
hear-requires c = subst (λ (x : BatchValue). HearsByIndex x.plan.log2m c.args.targets.now c.take_back.new.self) (sym c.deref-then-name-self.ensures) (now (goal.at.hear-requires c).After-deref-then-name-self).ready

pub invariant_of-self : goal.invariant_of-self
invariant_of-self c =
    let at = goal.at.invariant_of-self c in
    (heard at.After-hear (is_whole at.After-deref-then-name-self) (now at.After-deref-then-name-self)).limits

pub returns-then-name-self-clause-by : goal.returns-then-name-self-clause-by
returns-then-name-self-clause-by c =
    let at = goal.at.returns-then-name-self-clause-by c in
    let is = is_whole at.After-deref-then-name-self in
    let h = now at.After-deref-then-name-self in
    record {
      goes_on = can_go_on (after at.After-hear) is.spare (heard at.After-hear is h).kept.count (had_room c.self.inside c.args.self.now c.self.view_is c.requires.by.goes_on);
      index = inl h.index;
    }

pub returns-then-name-self-clause-receives : goal.returns-then-name-self-clause-receives
returns-then-name-self-clause-receives c =
    let at = goal.at.returns-then-name-self-clause-receives c in
    (heard at.After-hear (is_whole at.After-deref-then-name-self) (now at.After-deref-then-name-self)).receives

pub invariant_of-self-else-name-self : goal.invariant_of-self-else-name-self
invariant_of-self-else-name-self c = (kept (goal.at.invariant_of-self-else-name-self c).After-keep).limits

pub returns-else-name-self-clause-by : goal.returns-else-name-self-clause-by
returns-else-name-self-clause-by c = record {
  goes_on = (kept (goal.at.returns-else-name-self-clause-by c).After-keep).can;
  index = kept_index (state_of c.self.inside) c.keep.new.self c.args.targets.now (subst (λ (u : State). HasIndex u c.args.targets.now) (sym (state_is c.self.view_is)) c.requires.by.index);
}

pub returns-else-name-self-clause-receives : goal.returns-else-name-self-clause-receives
returns-else-name-self-clause-receives c = (kept (goal.at.returns-else-name-self-clause-receives c).After-keep).receives
