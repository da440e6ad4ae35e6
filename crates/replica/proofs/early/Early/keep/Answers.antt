use Rattle.std.proofs.Common.{◌≡◌, ◌*◌, ◌<◌, List, length, map, option_map, ◌∙◌, subst, arith}
use Rattle.replica.proofs.Names.{Option, arc_value, with_items, with_items_is, length-map, BatchValue}
use Rattle.replica.specs.Ahead.{IsTable}
use Rattle.replica.proofs.AheadLemmas.{early_in, kept_one, out_level, out_source, stays_table, is_table, place_fits}
use Rattle.replica.proofs.early.Early.keep.Goals as goal
use Rattle.replica.proofs.early.Early.keep.Goals.{After-self}

-- the table has the source
has_source : (c : After-self) → c.args.source < c.self.inside.parts
has_source c = c.requires.source c.self.inside.parts (subst (λ (e : List (List (Option BatchValue))). IsTable c.self.inside.parts e) c.self.view_is (is_table c.self.inside.parts (map (option_map arc_value) c.self.inside.slots.items)))

pub put-requires : goal.put-requires
put-requires c = omega (arith, place_fits c.self.inside.parts c.args.level c.args.source c.requires.level (has_source (goal.at.put-requires c).After-self), c.deref_mut.ensures.len, c.self.inside.slots.ok.0, c.self.invariant, c.from.ensures)

pub returns : goal.returns
returns c = record {
  kept = λ i k.
      let low = has_source (goal.at.returns c).After-self in
      let F = option_map (arc_value {X = BatchValue}) in
      let size : length c.put.new.slots ≡ c.self.inside.slots.len = omega (arith, c.put.auto.slots, c.deref_mut.ensures.len, c.self.inside.slots.ok.0) in
      let slots = map F c.self.inside.slots.items in
      let long : length slots ≡ 3 * c.self.inside.parts = length-map c.self.inside.slots.items F ∙ c.self.invariant in
      rw (with_items_is c.self.inside.slots c.put.new.slots size, c.put.ensures, c.deref_mut.ensures.value, c.from.ensures, ← c.self.view_is)
      (grind (arith, early_in, kept_one, out_source, out_level));
  table = stays_table c.self.inside.parts (map (option_map arc_value) c.self.inside.slots.items) (map (option_map arc_value) (with_items c.self.inside.slots c.put.new.slots).items) c.args.self.now c.self.view_is;
}
