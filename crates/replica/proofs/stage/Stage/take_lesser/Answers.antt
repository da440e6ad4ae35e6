use Rattle.std.proofs.Common.{◌<◌, ap, ◌∙◌, arith}
use Rattle.replica.proofs.Names.{PartValue, State}
use Rattle.replica.specs.declared.stage.Stage.TheInside as stage
use Rattle.replica.proofs.MergedLemmas.Absorb.{Absorbed, Merging, hear_from_other, lesser_taken, merging, own_index}
use Rattle.replica.proofs.TablesLemmas.{tables_alike}
use Rattle.replica.proofs.stage.Stage.take_lesser.Goals as goal
use Rattle.replica.proofs.stage.Stage.take_lesser.Goals.{After-other, After-fill}

-- the two
both : (c : After-other) → Merging c.self.inside c.other.inside c.args.self.now.state c.args.other.now.state c.args.shared.now
both c = merging c.self.inside c.other.inside c.args.self.now c.args.other.now c.args.shared.now c.self.invariant c.other.invariant c.self.view_is c.other.view_is c.requires.can.whole c.requires.can.two

-- what it is then
abbrev after : After-fill → stage.Inside
after c = record c.self.inside { hearing = c.hear_early.new.self; early = c.fill.new.self }

made : (c : After-fill) → Merging c.self.inside c.other.inside c.args.self.now.state c.args.other.now.state c.args.shared.now → Absorbed (after c) c.args.self.now.state c.args.other.now.state
made c g =
    let lt : c.other.inside.superstep < c.self.inside.superstep = omega (arith, c.requires.further, ap (λ (v : State). v.superstep) g.keeps.view_is, ap (λ (v : State). v.superstep) g.other_is) in
    lesser_taken c.self.inside c.other.inside c.args.self.now.state c.args.other.now.state c.plan.result.now c.args.targets.now c.args.shared.now c.hear_early.new.early c.fill.new.self c.hear_early.new.self g lt (c.plan.ensures ∙ ap (λ (a : PartValue). a.plan) c.deref.ensures)
    (own_index c.self.inside c.other.inside c.args.self.now.state c.args.other.now.state c.args.shared.now c.args.targets.now g c.requires.can.index) c.hear_early.ensures c.fill.ensures.kept c.fill.ensures.table

pub hear_early-requires : goal.hear_early-requires
hear_early-requires c = hear_from_other c.self.inside c.other.inside c.args.self.now.state c.args.other.now.state c.plan.result.now c.args.targets.now c.args.shared.now (both (goal.at.hear_early-requires c).After-other) (c.plan.ensures ∙ ap (λ (a : PartValue). a.plan) c.deref.ensures) c.requires.can.index

pub fill-requires : goal.fill-requires
fill-requires c = let m = (both (goal.at.fill-requires c).After-other).meets in tables_alike _ c.self.inside.early c.hear_early.new.early m.mine.early.table (c.hear_early.ensures.table _ m.table)

pub invariant_of-self : goal.invariant_of-self
invariant_of-self c = let at = goal.at.invariant_of-self c in (made at.After-fill (both at.After-other)).limits

pub returns : goal.returns
returns c =
    let at = goal.at.returns c in
    let is = made at.After-fill (both at.After-other) in
    record { absorbs = is.absorbs; whole = is.whole }
