use Rattle.std.proofs.Common.{◌≡◌, ℕ, ◌<◌, not, slice_index_or, length, [], false}
use Rattle.replica.proofs.Names.{bytes_eq}
use Rattle.replica.proofs.marks.mark_differences.Given as goal

abbrev pub invariant-loop-i : goal.invariant-loop-i
invariant-loop-i l = record {
  long : length l.marks ≡ length l.initial.marks;
  done : (k : ℕ) → k < l.i → slice_index_or l.marks k false ≡ not (bytes_eq (slice_index_or l.new.rows k []) (slice_index_or l.old.rows k []));
}
