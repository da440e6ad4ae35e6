use Rattle.std.proofs.Common.{◌≡◌, length, map, option_map, arith}
use Rattle.replica.proofs.Names.{arc_value, with_items, with_items_is, length-map, BatchValue}
use Rattle.replica.proofs.AheadLemmas.{early_in, filled_at, out_level, out_source, same_parts, stays_table}
use Rattle.replica.proofs.early.Early.fill.Goals as goal
use Rattle.replica.proofs.early.Early.fill.Goals.{After-other}

-- the other one is of as many sources
as_many_sources : (c : After-other) → c.other.inside.parts ≡ c.self.inside.parts
as_many_sources c = same_parts c.self.inside.parts c.other.inside.parts _ _ c.args.self.now c.args.other.now c.self.view_is c.other.view_is c.requires

pub fill_slots-requires : goal.fill_slots-requires
fill_slots-requires c = omega (arith, as_many_sources (goal.at.fill_slots-requires c).After-other, c.deref_mut.ensures.len, c.self.inside.slots.ok.0, c.self.invariant, c.deref_mut-2.ensures.len, c.other.inside.slots.ok.0, c.other.invariant)

pub returns : goal.returns
returns c = record {
  kept = λ i k.
      let F = option_map (arc_value {X = BatchValue}) in
      let size : length c.fill_slots.new.slots ≡ c.self.inside.slots.len = omega (arith, c.fill_slots.auto.slots, c.deref_mut.ensures.len, c.self.inside.slots.ok.0) in
      let mine = map F c.self.inside.slots.items in
      let theirs = map F c.other.inside.slots.items in
      let parts = as_many_sources (goal.at.returns c).After-other in
      let long : length theirs ≡ length mine = omega (arith, parts, length-map c.self.inside.slots.items F, length-map c.other.inside.slots.items F, c.self.invariant, c.other.invariant) in
      rw (with_items_is c.self.inside.slots c.fill_slots.new.slots size, c.fill_slots.ensures, c.deref_mut.ensures.value, c.deref_mut-2.ensures.value, ← c.self.view_is, ← c.other.view_is, parts)
      (grind (arith, early_in, filled_at, out_source, out_level));
  table = stays_table c.self.inside.parts (map (option_map arc_value) c.self.inside.slots.items) (map (option_map arc_value) (with_items c.self.inside.slots c.fill_slots.new.slots).items) c.args.self.now c.self.view_is;
}
