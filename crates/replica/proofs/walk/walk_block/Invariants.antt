use Rattle.std.proofs.Common.{◌≡◌, ℕ, ◌<◌, ◌≤◌, ◌+◌, ◌*◌, ◌^◌, [], false, length, map, slice_index_or}
use Rattle.ball_model.specs.Table.{pieces}
use Rattle.replica.proofs.Names.{sum_by, value_of, weight_of, estimate_with, no_figures}
use Rattle.replica.specs.Level.{next_tally}
use Rattle.replica.specs.Pull.{pulled_row}
use Rattle.replica.specs.Spread.{touched_at}
use Rattle.replica.specs.Walk.{fresh_rows}
use Rattle.replica.proofs.walk.walk_block.Given as goal

abbrev pub invariant-loop-k : goal.invariant-loop-k
invariant-loop-k l = record {
  done : (j : ℕ) → j < l.k → slice_index_or (pieces l.walk.pull.rows.now.width (length l.initial.touched) l.cells) j [] ≡ pulled_row l.walk.pull.part.now l.walk.pull.rows.now.rows l.walk.pull.marks.now (l.from + j) (slice_index_or (fresh_rows l.walk.stale l.walk.pull.rows.now l.from (length l.initial.touched) l.initial.cells) j []);
  rest : (j : ℕ) → l.k ≤ j → slice_index_or (pieces l.walk.pull.rows.now.width (length l.initial.touched) l.cells) j [] ≡ slice_index_or (pieces l.walk.pull.rows.now.width (length l.initial.touched) l.initial.cells) j [];
  told : (j : ℕ) → j < l.k → slice_index_or l.touched j false ≡ touched_at l.initial.touched (fresh_rows l.walk.stale l.walk.pull.rows.now l.from (length l.initial.touched) l.initial.cells) (pieces l.walk.pull.rows.now.width (length l.initial.touched) l.cells) j;
  still : (j : ℕ) → l.k ≤ j → slice_index_or l.touched j false ≡ slice_index_or l.initial.touched j false;
  stepped : (j : ℕ) → j < l.k → slice_index_or (map value_of l.tallies) j no_figures ≡ next_tally l.walk.t (slice_index_or (map value_of l.initial.tallies) j no_figures) (estimate_with l.walk.estimator.now (pulled_row l.walk.pull.part.now l.walk.pull.rows.now.rows l.walk.pull.marks.now (l.from + j) (slice_index_or (fresh_rows l.walk.stale l.walk.pull.rows.now l.from (length l.initial.touched) l.initial.cells) j [])));
  left : (j : ℕ) → l.k ≤ j → slice_index_or (map value_of l.tallies) j no_figures ≡ slice_index_or (map value_of l.initial.tallies) j no_figures;
  moved : (j : ℕ) → j < l.k → slice_index_or l.weights j 0 ≡ weight_of (pulled_row l.walk.pull.part.now l.walk.pull.rows.now.rows l.walk.pull.marks.now (l.from + j) (slice_index_or (fresh_rows l.walk.stale l.walk.pull.rows.now l.from (length l.initial.touched) l.initial.cells) j []));
  waits : (j : ℕ) → l.k ≤ j → slice_index_or l.weights j 0 ≡ slice_index_or l.initial.weights j 0;
  gain : sum_by (λ tally. tally.last) l.tallies ≡ sum_by (λ tally. tally.last) l.initial.tallies + l.gain;
  small : l.gain ≤ 2 ^ 64 * l.k;
}
