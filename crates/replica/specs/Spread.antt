-- Rows of vertices, spread to the own vertices that those have an edge to (HyperBall 2013).
use Rattle.std.specs.Prelude.{◌≡◌, ℕ, ◌+◌, ◌*◌, ◌<◌, Bool, false, not, ◌||◌, ◌==◌, List, [], ◌∷◌, map, length, slice_index_or, if◌then◌else◌}
use Rattle.std.specs.List.{All, list_any, filter, range_with_len}
use Rattle.std.specs.Str.{bytes_eq}
use Rattle.ball_model.specs.Counter.{max_each}
use Rattle.ball_model.specs.Job.{PartValue}
use Rattle.ball_model.specs.Table.{Table}

-- the number is in the list
abbrev pub stands_in : List ℕ → ℕ → Bool
stands_in xs x = list_any (λ y. y == x) xs

-- row i, raised by other registers if i is one of the places
unfoldable pub row_after : List ℕ → List ℕ → List (List ℕ) → ℕ → List ℕ
row_after places registers rows i =
    if stands_in places i then max_each (slice_index_or rows i []) registers
    else slice_index_or rows i []

-- rows, raised by other registers at these places
unfoldable pub rows_after : List ℕ → List ℕ → List (List ℕ) → List (List ℕ)
rows_after places registers rows =
    map (row_after places registers rows) (range_with_len 0 (length rows))

-- rows, raised by those of some vertices one after the other, each at the places of its vertex
unfoldable pub rows_after_all : List (List ℕ) → List (ℕ × List ℕ) → List (List ℕ) → List (List ℕ)
rows_after_all targets [] rows = rows
rows_after_all targets (other ∷ rest) rows =
    rows_after_all targets rest (rows_after (slice_index_or targets other.0 []) other.1 rows)

-- a table whose rows are raised so, by other registers or by those of some vertices
abbrev pub raised_at : List ℕ → List ℕ → Table → Table
raised_at places registers table = record table { rows = rows_after places registers table.rows }

abbrev pub raised_by : List (List ℕ) → List (ℕ × List ℕ) → Table → Table
raised_by targets others table = record table { rows = rows_after_all targets others table.rows }

-- of the first n vertices of partition p those whose row is marked, each with its row
unfoldable pub marked_rows : ℕ → ℕ → List (List ℕ) → List Bool → ℕ → List (ℕ × List ℕ)
marked_rows parts p rows marks n =
    map (λ i. (i * parts + p, slice_index_or rows i []))
    (filter (λ i. slice_index_or marks i false) (range_with_len 0 n))

-- the vertices of a part whose row is marked, each with its row
abbrev pub own_rows : PartValue → List (List ℕ) → List Bool → List (ℕ × List ℕ)
own_rows part rows marks = marked_rows part.plan.parts part.number rows marks (length marks)

-- row i is marked if it was marked or has become another
abbrev pub touched_at : List Bool → List (List ℕ) → List (List ℕ) → ℕ → Bool
touched_at marks old new i =
    slice_index_or marks i false
    || not (bytes_eq (slice_index_or new i []) (slice_index_or old i []))

-- each place is below the count
abbrev pub LeadInside : ℕ → List (List ℕ) → Type 0
LeadInside count targets = All (λ places. All (λ i. i < count) places) targets

-- rows at these places can be raised by the registers, and marked
pub record CanRaise (places registers : List ℕ) (rows : Table) (touched : List Bool) : Type 0 where
  pub inside : All (λ i. i < length rows.rows) places
  pub width : length registers ≡ rows.width
  pub marks : length touched ≡ length rows.rows

-- rows can be raised and marked wherever the index leads
pub record CanSpread (targets : List (List ℕ)) (rows : Table) (touched : List Bool) : Type 0 where
  pub inside : LeadInside (length rows.rows) targets
  pub marks : length touched ≡ length rows.rows

-- and as wide are the rows to be spread
pub record CanSpreadRows (targets : List (List ℕ)) (width : ℕ) (rows : Table)
    (touched : List Bool) : Type 0 where
  pub wide : width ≡ rows.width
  pub room : CanSpread targets rows touched

-- the own rows of a part can be spread, of which there is one for each vertex, and a mark
pub record CanSpreadOwn (targets : List (List ℕ)) (part : PartValue) (own : Table)
    (marks : List Bool) (rows : Table) (touched : List Bool) : Type 0 where
  pub count : length own.rows ≡ length part.preds
  pub each : length marks ≡ length part.preds
  pub can : CanSpreadRows targets own.width rows touched

-- no register is below that of the row
abbrev pub IsAbove : List ℕ → List ℕ → Type 0
IsAbove row accumulated = max_each row accumulated ≡ accumulated

-- no accumulator is below its row anywhere, and those are marked that differ from their row
pub record AreTouched (rows accumulated : List (List ℕ)) (touched : List Bool) : Type 0 where
  pub count : length accumulated ≡ length rows
  pub marks : length touched ≡ length rows
  pub above : (i : ℕ) → i < length rows →
      IsAbove (slice_index_or rows i []) (slice_index_or accumulated i [])
  pub differ : (i : ℕ) → i < length rows →
      slice_index_or touched i false
      ≡ not (bytes_eq (slice_index_or accumulated i []) (slice_index_or rows i []))
