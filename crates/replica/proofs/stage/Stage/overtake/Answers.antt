use Rattle.std.proofs.Common.{◌<◌, ap, ◌∙◌, arith}
use Rattle.replica.proofs.Names.{PartValue, State}
use Rattle.replica.specs.declared.stage.Stage.TheInside as stage
use Rattle.replica.specs.Hearing.{Fills}
use Rattle.replica.proofs.MergedLemmas.Absorb.{Absorbed, Merging, can_hear_beside, merging, overtaken, own_index}
use Rattle.replica.proofs.TablesLemmas.{tables_alike}
use Rattle.replica.proofs.stage.Stage.overtake.Goals as goal
use Rattle.replica.proofs.stage.Stage.overtake.Goals.{After-other, After-assign-2, After-fill}

-- the two
both : (c : After-other) → Merging c.self.inside c.other.inside c.args.self.now.state c.args.other.now.state c.args.shared.now
both c = merging c.self.inside c.other.inside c.args.self.now c.args.other.now c.args.shared.now c.self.invariant c.other.invariant c.self.view_is c.other.view_is c.requires.can.whole c.requires.can.two

-- what the other one has heard
fills : (c : After-assign-2) → Fills c.other.inside.tables.rows c.other.inside.hearing c.assign-2.new.self
fills c = rw c.rows.ensures at c.assign-2.ensures

further : (c : After-other) → Merging c.self.inside c.other.inside c.args.self.now.state c.args.other.now.state c.args.shared.now → c.self.inside.superstep < c.other.inside.superstep
further c g = omega (arith, c.requires.further, ap (λ (v : State). v.superstep) g.keeps.view_is, ap (λ (v : State). v.superstep) g.other_is)

-- what it is then
abbrev after : After-fill → stage.Inside
after c = record { part = c.self.inside.part; superstep = c.other.inside.superstep; tables = c.assign.new.self; hearing = c.hear_early.new.self; spare = c.self.inside.spare; early = c.fill.new.self }

made : (c : After-fill) → Merging c.self.inside c.other.inside c.args.self.now.state c.args.other.now.state c.args.shared.now → c.self.inside.superstep < c.other.inside.superstep → Fills c.other.inside.tables.rows c.other.inside.hearing c.assign-2.new.self → Absorbed (after c) c.args.self.now.state c.args.other.now.state
made c g lt taken =
    overtaken c.self.inside c.other.inside c.args.self.now.state c.args.other.now.state c.plan.result.now c.args.targets.now c.args.shared.now c.hear_early.new.early c.fill.new.self c.assign.new.self c.assign-2.new.self c.hear_early.new.self g lt (c.plan.ensures ∙ ap (λ (a : PartValue). a.plan) c.deref.ensures)
    (own_index c.self.inside c.other.inside c.args.self.now.state c.args.other.now.state c.args.shared.now c.args.targets.now g c.requires.can.index) c.assign.ensures taken c.hear_early.ensures c.fill.ensures.kept c.fill.ensures.table

pub hear_early-requires : goal.hear_early-requires
hear_early-requires c =
    can_hear_beside c.self.inside c.other.inside c.args.self.now.state c.args.other.now.state c.plan.result.now c.args.targets.now c.args.shared.now c.assign-2.new.self (both (goal.at.hear_early-requires c).After-other) (c.plan.ensures ∙ ap (λ (a : PartValue). a.plan) c.deref.ensures) c.requires.can.index (fills (goal.at.hear_early-requires c).After-assign-2)

pub fill-requires : goal.fill-requires
fill-requires c = let m = (both (goal.at.fill-requires c).After-other).meets in tables_alike _ c.hear_early.new.early c.args.shared.now (c.hear_early.ensures.table _ m.mine.early.table) m.table

pub invariant_of-self : goal.invariant_of-self
invariant_of-self c =
    let at = goal.at.invariant_of-self c in
    let g = both at.After-other in
    (made at.After-fill g (further at.After-other g) (fills at.After-assign-2)).limits

pub returns : goal.returns
returns c =
    let at = goal.at.returns c in
    let g = both at.After-other in
    let is = made at.After-fill g (further at.After-other g) (fills at.After-assign-2) in
    record { absorbs = is.absorbs; whole = is.whole }
