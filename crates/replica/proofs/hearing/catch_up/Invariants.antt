use Rattle.std.proofs.Common.{◌≡◌, ℕ, ◌-◌, ◌<◌, ◌≤◌, slice_index_or, length, []}
use Rattle.replica.proofs.hearing.catch_up.Given as goal

abbrev pub invariant-loop-i : goal.invariant-loop-i
invariant-loop-i l = record {
  in_range : l.i ≤ length l.marks;
  width : l.rows.width ≡ l.initial.rows.width;
  count : length l.rows.rows ≡ length l.initial.rows.rows;
  done : (k : ℕ) → k < l.i → slice_index_or l.rows.rows k [] ≡ slice_index_or l.ahead.rows k [];
  rest : (k : ℕ) → l.i ≤ k → slice_index_or l.rows.rows k [] ≡ slice_index_or l.initial.rows.rows k [];
}

abbrev pub decreases-loop-i : goal.decreases-loop-i
decreases-loop-i l = length l.marks - l.i
