use Rattle.std.proofs.Common.{◌≡◌, ℕ, ◌<◌, slice_index_or, length}
use Rattle.replica.proofs.Names.{None}
use Rattle.replica.proofs.early.clear.Given as goal

abbrev pub invariant-loop-i : goal.invariant-loop-i
invariant-loop-i l = record {
  long : length l.slots ≡ length l.initial.slots;
  done : (k : ℕ) → k < l.i → slice_index_or l.slots k None ≡ None;
}
