-- Own rows, spread along edges that wait (HyperBall 2013).
use Rattle.std.specs.Prelude.{◌≡◌, ℕ, ◌<◌, Bool, List, [], ◌∷◌, length, slice_index_or}
use Rattle.std.specs.List.{All}
use Rattle.ball_model.specs.Table.{Table}
use Rattle.replica.specs.Heard.{MarksChanges, StayTouched}
use Rattle.replica.specs.Spread.{rows_after, touched_at}

-- rows, raised along edges one after the other, each of which leads from an own row to a place
unfoldable pub rows_along : List (List ℕ) → List (ℕ × ℕ) → List (List ℕ) → List (List ℕ)
rows_along own [] rows = rows
rows_along own (edge ∷ rest) rows =
    rows_along own rest (rows_after (edge.1 ∷ []) (slice_index_or own edge.0 []) rows)

-- rows can be raised along the edges, and marked
pub record CanRaiseAlong (own : Table) (edges : List (ℕ × ℕ)) (rows : Table) (touched : List Bool) :
    Type 0 where
  pub from : All (λ edge. edge.0 < length own.rows) edges
  pub to : All (λ edge. edge.1 < length rows.rows) edges
  pub width : own.width ≡ rows.width
  pub marks : length touched ≡ length rows.rows

-- before rows are raised along the edges, marks are set of rows alone that this makes others
abbrev pub MarksBeforeAlong : List (List ℕ) → List (ℕ × ℕ) → List (List ℕ) → List Bool →
    List Bool → Type 0
MarksBeforeAlong own edges rows marks later = (i : ℕ) → i < length rows →
    touched_at later rows (rows_along own edges rows) i
    ≡ touched_at marks rows (rows_along own edges rows) i

-- rows are raised along the edges, and those that this changes are marked
pub record RaisesAlong (own : List (List ℕ)) (edges : List (ℕ × ℕ)) (old new : Table)
    (before after : List Bool) : Type 0 where
  pub rows : new ≡ record old { rows = rows_along own edges old.rows }
  pub marks : MarksChanges before old.rows new.rows after

-- rows are raised along the edges that waited, and others can be
pub record RaisesWaiting (own : Table) (edges : List (ℕ × ℕ)) (old new : Table)
    (before after : List Bool) : Type 0 where
  pub rows : new ≡ record old { rows = rows_along own.rows edges old.rows }
  pub touched : StayTouched old.rows before new.rows after
  pub can : CanRaiseAlong own [] new after

-- edges wait, and those from own row i to these places can wait too
pub record CanAddEdges (own : Table) (i : ℕ) (places : List ℕ) (edges : List (ℕ × ℕ)) (rows : Table)
    (touched : List Bool) : Type 0 where
  pub can : CanRaiseAlong own edges rows touched
  pub few : length edges < 16
  pub row : i < length own.rows
  pub inside : All (λ place. place < length rows.rows) places

-- they do, or were followed: once those that wait are followed too, the rows are raised along all
pub record AddsEdges (own : Table) (i : ℕ) (places : List ℕ) (was now : List (ℕ × ℕ))
    (old new : Table) (before after : List Bool) : Type 0 where
  pub rows : rows_along own.rows now new.rows
      ≡ rows_after places (slice_index_or own.rows i []) (rows_along own.rows was old.rows)
  pub count : length new.rows ≡ length old.rows
  pub width : new.width ≡ old.width
  pub touched : StayTouched old.rows before new.rows after
  pub can : CanRaiseAlong own now new after
  pub few : length now < 16
