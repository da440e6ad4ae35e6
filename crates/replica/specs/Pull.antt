-- Rows of own vertices, raised by those of their own predecessors that are marked (HyperBall 2013).
use Rattle.std.specs.Prelude.{◌≡◌, ℕ, ◌+◌, ◌*◌, ◌/◌, ◌%◌, ◌<◌, ◌≤◌, Bool, false, not, ◌&&◌, ◌==◌, List, [], map, length, slice_index_or}
use Rattle.std.specs.List.{All, filter}
use Rattle.std.specs.Str.{bytes_eq}
use Rattle.ball_model.specs.Job.{PartValue}
use Rattle.ball_model.specs.Table.{Table}
unfoldable pub use Rattle.registers.specs.Raised.{raised_over}
pub use Rattle.registers.specs.Raised.{rows_at}
use Rattle.registers.specs.Shape.{piece_at, with_piece}
use Rattle.replica.specs.Spread.{touched_at}

-- a row can be raised by those at these places
pub record CanRaiseBy (own : Table) (places row : List ℕ) : Type 0 where
  pub inside : All (λ place. place < length own.rows) places
  pub wide : length row ≡ own.width

-- it was, and the answer is whether this has changed it
pub record RaisesBy (own : List (List ℕ)) (places old new : List ℕ) (changed : Bool) : Type 0 where
  pub row : new ≡ raised_over old (rows_at own places)
  pub tells : changed ≡ not (bytes_eq new old)

-- vertex z is of partition p, and its row is marked
abbrev pub is_told : ℕ → ℕ → List Bool → ℕ → Bool
is_told parts p marks z = (z % parts == p) && slice_index_or marks (z / parts) false

-- the rows of those of some vertices that are of partition p and marked
unfoldable pub told_rows : ℕ → ℕ → List (List ℕ) → List Bool → List ℕ → List (List ℕ)
told_rows parts p rows marks zs =
    map (λ z. slice_index_or rows (z / parts) []) (filter (is_told parts p marks) zs)

-- the row of own vertex i becomes the maximum of itself and of the rows of its own predecessors that are marked
abbrev pub pulled_row : PartValue → List (List ℕ) → List Bool → ℕ → List ℕ → List ℕ
pulled_row part own marks i row =
    raised_over row
    (told_rows part.plan.parts part.number own marks (slice_index_or part.preds i []))

-- rows have become these, from own vertex `from` on
pub record ArePulled (part : PartValue) (own : List (List ℕ)) (marks : List Bool) (from : ℕ)
    (old new : List (List ℕ)) : Type 0 where
  pub count : length new ≡ length old
  pub row : (k : ℕ) → k < length old → slice_index_or new k []
      ≡ pulled_row part own marks (from + k) (slice_index_or old k [])

-- and those that this has changed are marked
pub record PullsRows (part : PartValue) (own : List (List ℕ)) (marks : List Bool) (from : ℕ)
    (old new : List (List ℕ)) (before after : List Bool) : Type 0 where
  pub rows : ArePulled part own marks from old new
  pub touched : (k : ℕ) → k < length old →
      slice_index_or after k false ≡ touched_at before old new k

-- there is a row and a mark for each own vertex
pub record CanPull (part : PartValue) (own : Table) (marks : List Bool) : Type 0 where
  pub count : length own.rows ≡ length part.preds
  pub each : length marks ≡ length part.preds

-- a row of own vertex i can be pulled
pub record CanPullRow (part : PartValue) (own : Table) (marks : List Bool) (i : ℕ)
    (row : List ℕ) : Type 0 where
  pub can : CanPull part own marks
  pub vertex : i < length part.preds
  pub wide : length row ≡ own.width

-- it was, and the answer is whether this has changed it
pub record PullsRow (part : PartValue) (own : List (List ℕ)) (marks : List Bool) (i : ℕ)
    (old new : List ℕ) (changed : Bool) : Type 0 where
  pub row : new ≡ pulled_row part own marks i old
  pub tells : changed ≡ not (bytes_eq new old)

-- the k-th of some rows, from own vertex `from` on, was pulled among their registers
pub record PullsPiece (part : PartValue) (own : Table) (marks : List Bool) (from k : ℕ)
    (old new : List ℕ) (changed : Bool) : Type 0 where
  pub cells : new ≡ with_piece own.width k
      (pulled_row part own.rows marks (from + k) (piece_at own.width k old)) old
  pub tells : changed ≡ not (bytes_eq
      (pulled_row part own.rows marks (from + k) (piece_at own.width k old))
      (piece_at own.width k old))

-- the registers of some rows, from own vertex `from` on, with a mark for each
pub record CanPullBlock (part : PartValue) (own : Table) (marks : List Bool) (from : ℕ)
    (cells : List ℕ) (touched : List Bool) : Type 0 where
  pub can : CanPull part own marks
  pub inside : from + length touched ≤ length part.preds
  pub filled : length cells ≡ length touched * own.width

-- all own rows can be pulled
pub record CanPullOwn (part : PartValue) (own : Table) (marks : List Bool) (rows : Table)
    (touched : List Bool) : Type 0 where
  pub can : CanPull part own marks
  pub width : rows.width ≡ own.width
  pub count : length rows.rows ≡ length part.preds
  pub each : length touched ≡ length part.preds
