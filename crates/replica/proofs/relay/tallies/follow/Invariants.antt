use Rattle.std.proofs.Common.{◌≡◌, ℕ, ◌-◌, ◌<◌, ◌≤◌, slice_index_or, length, map}
use Rattle.replica.proofs.Names.{no_figures, value_of}
use Rattle.replica.proofs.relay.tallies.follow.Given as goal

abbrev pub invariant-loop-i : goal.invariant-loop-i
invariant-loop-i l = record {
  in_range : l.i ≤ length l.stale;
  long : length l.tallies ≡ length l.initial.tallies;
  done : (k : ℕ) → k < l.i → slice_index_or (map value_of l.tallies) k no_figures ≡ slice_index_or (map value_of l.ahead) k no_figures;
  rest : (k : ℕ) → l.i ≤ k → slice_index_or (map value_of l.tallies) k no_figures ≡ slice_index_or (map value_of l.initial.tallies) k no_figures;
}

abbrev pub decreases-loop-i : goal.decreases-loop-i
decreases-loop-i l = length l.stale - l.i
