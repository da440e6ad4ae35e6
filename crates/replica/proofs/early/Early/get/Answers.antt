use Rattle.std.proofs.Common.{◌≡◌, ◌+◌, ◌*◌, ◌<◌, length, option_map, map, ap, sym, ◌∙◌, arith}
use Rattle.replica.proofs.Names.{Some, None, arc_value, get_or-map, BatchValue, early_at}
use Rattle.replica.proofs.AheadLemmas.{early_in, out_level, out_source, place_fits}
use Rattle.replica.proofs.early.Early.get.Goals as goal
use Rattle.replica.proofs.early.Early.get.Goals.{After-index, then-level-ge-LEVELS-via-then-level-ge-LEVELS, then-level-ge-LEVELS-via-else-level-ge-LEVELS+then-self-source}

pub returns-then-level-ge-LEVELS : goal.returns-then-level-ge-LEVELS
returns-then-level-ge-LEVELS c =
    let slots = map (option_map arc_value) c.self.inside.slots.items in
    sym (rw (← c.self.view_is) (elim c.then-level-ge-LEVELS.branch [
      | then-level-ge-LEVELS-via-then-level-ge-LEVELS w ↦ out_level c.self.inside.parts slots c.args.level c.args.source (omega (arith, w.if-level-ge-LEVELS.true))
      | then-level-ge-LEVELS-via-else-level-ge-LEVELS+then-self-source w ↦ out_source c.self.inside.parts slots c.args.level c.args.source (omega (arith, w.if-self-source.true, c.from-source.ensures))
    ]))

-- what stands at the place
found : (c : After-index) → option_map (arc_value {X = BatchValue}) c.index.result.now ≡ early_at c.args.self.now c.args.level c.args.source
found c =
    let F = option_map (arc_value {X = BatchValue}) in
    let parts = c.self.inside.parts in
    let slots = c.self.inside.slots.items in
    let low : c.args.level < 3 = omega (arith, c.if-level-ge-LEVELS.false) in
    let below : c.args.source < parts = omega (arith, c.if-self-source.false, c.from-source.ensures) in
    let lt : c.args.level * parts + c.from-source.result < length slots = omega (arith, place_fits parts c.args.level c.args.source low below, c.self.invariant, c.from-source.ensures) in
    ap F c.index.ensures
    ∙ sym (get_or-map F slots (c.args.level * parts + c.from-source.result) c.index.result.now None lt)
    ∙ rw c.from-source.ensures (sym (early_in parts (map F slots) c.args.level c.args.source low below))
    ∙ ap (λ e. early_at e c.args.level c.args.source) c.self.view_is

pub returns-in-Some : goal.returns-in-Some
returns-in-Some c = ap Some c.deref.ensures ∙ ap (option_map (arc_value {X = BatchValue})) (sym c.in-Some.is) ∙ found (goal.at.returns-in-Some c).After-index

pub returns-in-None : goal.returns-in-None
returns-in-None c = ap (option_map (arc_value {X = BatchValue})) (sym c.in-None.is) ∙ found (goal.at.returns-in-None c).After-index
