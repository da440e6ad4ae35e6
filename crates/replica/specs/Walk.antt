-- Rows that are pulled, and figures that follow them in the same walk.
use Rattle.std.specs.Prelude.{◌≡◌, ℕ, ◌+◌, ◌*◌, ◌<◌, ◌≤◌, Bool, false, not, ◌||◌, List, [], length, map, take, drop, slice_index_or, IsTrue, if◌then◌else◌}
use Rattle.std.specs.Str.{bytes_eq}
use Rattle.ball_model.specs.Checkpoint.{no_figures}
use Rattle.ball_model.specs.Figures.{TallyValue, Measure, estimate_with}
use Rattle.ball_model.specs.Job.{PartValue}
use Rattle.ball_model.specs.PlanValue.{greatest_limit}
use Rattle.ball_model.specs.Table.{Table, pieces}
use Rattle.figures.specs.Values.{weight_of}
use Rattle.registers.specs.Shape.{piece_at, with_piece}
use Rattle.replica.specs.Heard.{SpreadsOwn}
use Rattle.replica.specs.Index.{targets_of}
use Rattle.replica.specs.Kept.{AllRise, AreCounters, RowRises}
use Rattle.replica.specs.Level.{weights_of}
use Rattle.replica.specs.Pull.{CanPullBlock, CanPullOwn, CanPullRow, PullsRows, pulled_row}
use Rattle.replica.specs.Spread.{AreTouched, IsAbove}
use Rattle.replica.specs.Stepping.{StepsBlock}
use Rattle.replica.specs.Tables.{AreStepped, IsStepped}

-- ---- one row

-- what is accumulated for own vertex i, or the own row if that is stale
abbrev pub fresh_row : Bool → Table → ℕ → List ℕ → List ℕ
fresh_row stale own i row = if stale then slice_index_or own.rows i [] else row

-- what is accumulated for row i: if it is stale, it is the row unless that is marked
pub record IsPieceOf (stale : Bool) (own : Table) (marks : List Bool) (i : ℕ) (row : List ℕ) : Type 0 where
  pub inside : i < length own.rows
  pub each : length marks ≡ length own.rows
  pub same : IsTrue stale → slice_index_or marks i false ≡ false → row ≡ slice_index_or own.rows i []

-- what is accumulated for a row is that row, raised; it is marked if it differs, and weight and estimate are still the row's
pub record IsRowAhead (m : Measure) (row accumulated : List ℕ) (touched : Bool) (own last : ℕ) : Type 0 where
  pub rise : RowRises m.log2m row accumulated
  pub above : IsAbove row accumulated
  pub differ : touched ≡ not (bytes_eq accumulated row)
  pub weight : own ≡ weight_of row
  pub last_is : last ≡ estimate_with m row

-- what becomes of the k-th piece of some registers, from own vertex `from` on, where it is pulled
abbrev pub piece_ahead : PartValue → Bool → Table → List Bool → ℕ → ℕ → List ℕ → List ℕ
piece_ahead part stale own marks from k cells =
    pulled_row part own.rows marks (from + k) (fresh_row stale own (from + k) (piece_at own.width k cells))

-- the k-th row of some, from own vertex `from` on, can be pulled, and its figures can follow to superstep t
pub record CanWalkRow (m : Measure) (t : ℕ) (part : PartValue) (stale : Bool) (own : Table) (marks : List Bool)
    (from k : ℕ) (cells : List ℕ) (touched : Bool) (weight last : ℕ) : Type 0 where
  pub low : 0 < t
  pub high : t ≤ greatest_limit
  pub counters : AreCounters m.log2m own.rows
  pub within : k * own.width + own.width ≤ length cells
  pub piece : IsPieceOf stale own marks (from + k) (piece_at own.width k cells)
  pub can : CanPullRow part own marks (from + k) (piece_at own.width k cells)
  pub ahead : IsRowAhead m (slice_index_or own.rows (from + k) [])
      (fresh_row stale own (from + k) (piece_at own.width k cells)) touched weight last

-- it was pulled, and is marked if it was or if this has changed it; its figures are those of the row that it has become
pub record WalksRow (m : Measure) (t : ℕ) (part : PartValue) (stale : Bool) (own : Table) (marks : List Bool)
    (from k : ℕ) (old new : List ℕ) (before after : Bool) (figures moved : TallyValue)
    (weight gained : ℕ) : Type 0 where
  pub cells : new ≡ with_piece own.width k (piece_ahead part stale own marks from k old) old
  pub touched : after ≡ (before || not (bytes_eq (piece_ahead part stale own marks from k old)
      (fresh_row stale own (from + k) (piece_at own.width k old))))
  pub stepped : IsStepped m t (piece_ahead part stale own marks from k old) figures moved weight gained

-- ---- rows of a block

-- the rows that some registers have, n from own vertex `from` on, or the own rows if these are stale
abbrev pub fresh_rows : Bool → Table → ℕ → ℕ → List ℕ → List (List ℕ)
fresh_rows stale own from n cells = if stale then take n (drop from own.rows) else pieces own.width n cells

-- rows from own vertex `from` on, with a mark, a weight and figures for each
pub record CanWalkBlock (m : Measure) (t : ℕ) (part : PartValue) (stale : Bool) (own : Table) (marks : List Bool)
    (from : ℕ) (cells : List ℕ) (touched : List Bool) (weights : List ℕ)
    (tallies : List TallyValue) : Type 0 where
  pub low : 0 < t
  pub high : t ≤ greatest_limit
  pub counters : AreCounters m.log2m own.rows
  pub pull : CanPullBlock part own marks from cells touched
  pub each : length weights ≡ length touched
  pub all : length tallies ≡ length touched
  pub each_is : (k : ℕ) → k < length touched → IsPieceOf stale own marks (from + k)
      (slice_index_or (pieces own.width (length touched) cells) k [])
  pub ahead : (k : ℕ) → k < length touched → IsRowAhead m (slice_index_or own.rows (from + k) [])
      (slice_index_or (fresh_rows stale own from (length touched) cells) k [])
      (slice_index_or touched k false) (slice_index_or weights k 0)
      (slice_index_or tallies k no_figures).last

-- they were pulled, figures and weights are those of the rows that they have become, and the last estimates have gained so
-- much in all
pub record WalksBlock (m : Measure) (t : ℕ) (part : PartValue) (stale : Bool) (own : Table) (marks : List Bool)
    (from : ℕ) (old new : List ℕ) (before after : List Bool) (figures moved : List TallyValue)
    (weights : List ℕ) (gained : ℕ) : Type 0 where
  pub pulls : PullsRows part own.rows marks from (fresh_rows stale own from (length before) old)
      (pieces own.width (length before) new) before after
  pub steps : StepsBlock m t
      (record { width = own.width; rows = pieces own.width (length before) new }) 0
      figures moved weights gained

-- ---- all own rows

-- what is accumulated are the own rows, raised, and figures and weights are those of the rows
pub record CanWalk (m : Measure) (t : ℕ) (part : PartValue) (own : Table) (marks : List Bool) (accumulated : Table)
    (touched : List Bool) (weights : List ℕ) (tallies : List TallyValue) : Type 0 where
  pub low : 0 < t
  pub high : t ≤ greatest_limit
  pub pull : CanPullOwn part own marks accumulated touched
  pub counters : AreCounters m.log2m own.rows
  pub rise : AllRise m.log2m own.rows accumulated.rows
  pub kept : AreTouched own.rows accumulated.rows touched
  pub weights_are : weights ≡ weights_of own.rows
  pub lasts : map (λ tally. tally.last) tallies ≡ map (estimate_with m) own.rows

-- the own rows that are marked were spread, and figures and weights are those of what is accumulated then
pub record Walks (m : Measure) (t : ℕ) (part : PartValue) (own : Table) (marks : List Bool) (old new : Table)
    (before after : List Bool) (figures moved : List TallyValue) (weights : List ℕ) (gained : ℕ) :
    Type 0 where
  pub spreads : SpreadsOwn (targets_of part) part own.rows marks old new before after
  pub steps : AreStepped m t new figures moved weights gained new
