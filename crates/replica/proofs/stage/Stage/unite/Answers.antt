use Rattle.std.proofs.Common.{◌≡◌, ap, sym, ◌∙◌}
use Rattle.replica.proofs.Names.{State, Table}
use Rattle.replica.specs.declared.stage.Stage.TheInside as stage
use Rattle.replica.specs.Seen.{state_of}
use Rattle.replica.proofs.MergedLemmas.Absorb.{Absorbed, Merging, merging, united}
use Rattle.replica.proofs.stage.Stage.unite.Goals as goal
use Rattle.replica.proofs.stage.Stage.unite.Goals.{After-other, After-accumulators, After-fill}

-- the two
both : (c : After-other) → Merging c.self.inside c.other.inside c.args.self.now.state c.args.other.now.state c.args.shared.now
both c = merging c.self.inside c.other.inside c.args.self.now c.args.other.now c.args.shared.now c.self.invariant c.other.invariant c.self.view_is c.other.view_is c.requires.can.whole c.requires.can.two

-- the accumulators of the other one
theirs : (c : After-accumulators) → Merging c.self.inside c.other.inside c.args.self.now.state c.args.other.now.state c.args.shared.now → c.accumulators.result.now.rows ≡ (state_of c.other.inside).accumulated
theirs c g = ap (λ (t : Table). t.rows) c.accumulators.ensures ∙ sym (ap (λ (v : State). v.accumulated) g.other_is)

-- what it is then
abbrev after : After-fill → stage.Inside
after c = record c.self.inside { hearing = c.absorb.new.self; early = c.fill.new.self }

made : (c : After-fill) → Merging c.self.inside c.other.inside c.args.self.now.state c.args.other.now.state c.args.shared.now → c.accumulators.result.now.rows ≡ (state_of c.other.inside).accumulated → Absorbed (after c) c.args.self.now.state c.args.other.now.state
made c g are =
    united c.self.inside c.other.inside c.args.self.now.state c.args.other.now.state c.args.shared.now c.fill.new.self c.accumulators.result.now c.absorb.new.self g
    (ap (λ (v : State). v.superstep) g.keeps.view_is ∙ c.requires.level ∙ sym (ap (λ (v : State). v.superstep) g.other_is))
    are (rw c.rows.ensures at c.absorb.ensures) c.fill.ensures.kept c.fill.ensures.table

pub invariant_of-self : goal.invariant_of-self
invariant_of-self c =
    let at = goal.at.invariant_of-self c in
    let g = both at.After-other in
    (made at.After-fill g (theirs at.After-accumulators g)).limits

pub returns : goal.returns
returns c =
    let at = goal.at.returns c in
    let g = both at.After-other in
    let is = made at.After-fill g (theirs at.After-accumulators g) in
    record { absorbs = is.absorbs; whole = is.whole }
