-- Figures that are stepped block by block.
use Rattle.std.specs.Prelude.{◌≡◌, ℕ, ◌+◌, ◌*◌, ◌^◌, ◌<◌, ◌≤◌, Bool, false, List, [], length, slice_index_or}
use Rattle.std.specs.List.{sum_by}
use Rattle.ball_model.specs.Figures.{TallyValue, Measure, estimate_with}
use Rattle.ball_model.specs.PlanValue.{greatest_limit}
use Rattle.ball_model.specs.Table.{Table}
use Rattle.ball_model.specs.Checkpoint.{no_figures}
use Rattle.figures.specs.Values.{weight_of}
use Rattle.replica.specs.Kept.{AreCounters}
use Rattle.replica.specs.Level.{next_tally}

-- the figures and weights of some rows, from place `from` on, with a mark for each: if it is not marked the row stays,
-- and so does its estimate
pub record CanStepBlock (m : Measure) (t : ℕ) (old new : Table) (from : ℕ) (marks : List Bool)
    (own : List ℕ) (tallies : List TallyValue) : Type 0 where
  pub low : 0 < t
  pub high : t ≤ greatest_limit
  pub rows : AreCounters m.log2m old.rows
  pub ahead : AreCounters m.log2m new.rows
  pub count : length old.rows ≡ length new.rows
  pub inside : from + length marks ≤ length new.rows
  pub each : length own ≡ length marks
  pub all : length tallies ≡ length marks
  pub weights : (k : ℕ) → k < length marks →
      slice_index_or own k 0 ≡ weight_of (slice_index_or old.rows (from + k) [])
  pub grown : (k : ℕ) → k < length marks → (slice_index_or tallies k no_figures).last
      ≤ estimate_with m (slice_index_or new.rows (from + k) [])
  pub same : (k : ℕ) → k < length marks → slice_index_or marks k false ≡ false →
      slice_index_or old.rows (from + k) [] ≡ slice_index_or new.rows (from + k) []
  pub lasts : (k : ℕ) → k < length marks → slice_index_or marks k false ≡ false →
      (slice_index_or tallies k no_figures).last
      ≡ estimate_with m (slice_index_or new.rows (from + k) [])

-- they are those of the rows ahead at superstep t, and the last estimates have gained so much in all
pub record StepsBlock (m : Measure) (t : ℕ) (new : Table) (from : ℕ)
    (before after : List TallyValue) (own : List ℕ) (gained : ℕ) : Type 0 where
  pub count : length after ≡ length before
  pub figures : (k : ℕ) → k < length before → slice_index_or after k no_figures
      ≡ next_tally t (slice_index_or before k no_figures)
      (estimate_with m (slice_index_or new.rows (from + k) []))
  pub weights : (k : ℕ) → k < length before →
      slice_index_or own k 0 ≡ weight_of (slice_index_or new.rows (from + k) [])
  pub gain : sum_by (λ tally. tally.last) after ≡ sum_by (λ tally. tally.last) before + gained
  pub small : gained ≤ 2 ^ 64 * length before
