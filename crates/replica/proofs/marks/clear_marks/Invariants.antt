use Rattle.std.proofs.Common.{◌≡◌, ℕ, ◌<◌, slice_index_or, length, false}
use Rattle.replica.proofs.marks.clear_marks.Given as goal

abbrev pub invariant-loop-i : goal.invariant-loop-i
invariant-loop-i l = record {
  long : length l.marks ≡ length l.initial.marks;
  done : (k : ℕ) → k < l.i → slice_index_or l.marks k false ≡ false;
}
