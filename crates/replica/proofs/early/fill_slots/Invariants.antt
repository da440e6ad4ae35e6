use Rattle.std.proofs.Common.{◌≡◌, ℕ, ◌<◌, ◌≤◌, slice_index_or, option_map, map}
use Rattle.replica.proofs.Names.{None, arc_value}
use Rattle.replica.specs.Ahead.{either}
use Rattle.replica.proofs.early.fill_slots.Given as goal

abbrev pub invariant-loop-i : goal.invariant-loop-i
invariant-loop-i l = record {
  done : (k : ℕ) → k < l.i → slice_index_or (map (option_map arc_value) l.slots) k None ≡ either (slice_index_or (map (option_map arc_value) l.initial.slots) k None) (slice_index_or (map (option_map arc_value) l.initial.others) k None);
  rest : (k : ℕ) → l.i ≤ k → slice_index_or (map (option_map arc_value) l.slots) k None ≡ slice_index_or (map (option_map arc_value) l.initial.slots) k None;
  others : (k : ℕ) → l.i ≤ k → slice_index_or (map (option_map arc_value) l.others) k None ≡ slice_index_or (map (option_map arc_value) l.initial.others) k None;
}
