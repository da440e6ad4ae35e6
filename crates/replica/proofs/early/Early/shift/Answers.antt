use Rattle.std.proofs.Common.{◌≡◌, ◌*◌, length, map, option_map, ◌∙◌, arith}
use Rattle.replica.proofs.Names.{arc_value, with_items, with_items_is, length-map, get_or_past, BatchValue}
use Rattle.std.proofs.Math.Nat.{mul-le-mul_right}
use Rattle.replica.proofs.AheadLemmas.{early_in, out_level, out_source, shifted_at, stays_table}
use Rattle.replica.proofs.early.Early.shift.Goals as goal

pub returns : goal.returns
returns c = record {
  kept = λ i k.
      let F = option_map (arc_value {X = BatchValue}) in
      let size : length c.shift_slots.new.slots ≡ c.self.inside.slots.len = omega (arith, c.shift_slots.auto.slots, c.deref_mut.ensures.len, c.self.inside.slots.ok.0) in
      let slots = map F c.self.inside.slots.items in
      let long : length slots ≡ 3 * c.self.inside.parts = length-map c.self.inside.slots.items F ∙ c.self.invariant in
      rw (with_items_is c.self.inside.slots c.shift_slots.new.slots size, c.shift_slots.ensures, c.deref_mut.ensures.value, ← c.self.view_is)
      (grind (arith, early_in, shifted_at, mul-le-mul_right, get_or_past, out_level, out_source));
  table = stays_table c.self.inside.parts (map (option_map arc_value) c.self.inside.slots.items) (map (option_map arc_value) (with_items c.self.inside.slots c.shift_slots.new.slots).items) c.args.self.now c.self.view_is;
}
