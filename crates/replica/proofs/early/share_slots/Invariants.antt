use Rattle.std.proofs.Common.{◌≡◌, ◌≤◌, take, map, option_map, length}
use Rattle.replica.proofs.Names.{arc_value, vec_len, vec_capacity}
use Rattle.replica.proofs.early.share_slots.Given as goal

abbrev pub invariant-loop-slot : goal.invariant-loop-slot
invariant-loop-slot l = record {
  items : map (option_map arc_value) l.shared.items ≡ map (option_map arc_value) (take l.slot-index l.slots);
  len : vec_len l.shared ≡ l.slot-index;
  room : length l.slots ≤ vec_capacity l.shared;
}
