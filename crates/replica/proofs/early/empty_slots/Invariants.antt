use Rattle.std.proofs.Common.{◌≡◌, ◌≤◌, map, option_map, replicate}
use Rattle.replica.proofs.Names.{None, arc_value, vec_len, vec_capacity}
use Rattle.replica.proofs.early.empty_slots.Given as goal

abbrev pub invariant-loop : goal.invariant-loop
invariant-loop l = record {
  items : map (option_map arc_value) l.slots.items ≡ replicate l.counter None;
  len : vec_len l.slots ≡ l.counter;
  room : l.count ≤ vec_capacity l.slots;
}
