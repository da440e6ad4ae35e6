use Rattle.std.proofs.Common.{◌≡◌, ℕ, ◌<◌, ◌≤◌, ◌+◌, ◌-◌, ◌*◌, ◌^◌, slice_index_or, length, [], map}
use Rattle.replica.proofs.Names.{sum_by, value_of, weight_of, estimate_with, no_figures}
use Rattle.replica.specs.Level.{next_tally}
use Rattle.replica.proofs.stepping.step_block.Given as goal

abbrev pub invariant-loop-k : goal.invariant-loop-k
invariant-loop-k l = record {
  in_range : l.k ≤ length l.span.marks.now;
  long : length l.tallies ≡ length l.initial.tallies;
  as_many : length l.weights ≡ length l.initial.weights;
  done : (j : ℕ) → j < l.k → slice_index_or (map value_of l.tallies) j no_figures ≡ next_tally l.blocks.step.now.t (slice_index_or (map value_of l.initial.tallies) j no_figures) (estimate_with l.blocks.step.now.estimator.now (slice_index_or l.blocks.step.now.ahead.now.rows (l.span.from + j) []));
  rest : (j : ℕ) → l.k ≤ j → slice_index_or (map value_of l.tallies) j no_figures ≡ slice_index_or (map value_of l.initial.tallies) j no_figures;
  moved : (j : ℕ) → j < l.k → slice_index_or l.weights j 0 ≡ weight_of (slice_index_or l.blocks.step.now.ahead.now.rows (l.span.from + j) []);
  still : (j : ℕ) → l.k ≤ j → slice_index_or l.weights j 0 ≡ slice_index_or l.initial.weights j 0;
  gain : sum_by (λ tally. tally.last) l.tallies ≡ sum_by (λ tally. tally.last) l.initial.tallies + l.gain;
  small : l.gain ≤ 2 ^ 64 * l.k;
}

abbrev pub decreases-loop-k : goal.decreases-loop-k
decreases-loop-k l = length l.span.marks.now - l.k
