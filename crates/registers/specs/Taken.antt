-- Rows that are taken over, block by block.
use Rattle.std.specs.Prelude.{◌≡◌, ℕ, ◌+◌, ◌*◌, ◌<◌, ◌≤◌, Bool, false, List, [], length, slice_index_or}
use Rattle.ball_model.specs.Table.{Table, pieces}

-- rows, from place `from` on, are those of a table
abbrev pub AreThoseFrom : Table → ℕ → List (List ℕ) → ℕ → Type 0
AreThoseFrom table from rows n = (k : ℕ) → k < n →
    slice_index_or rows k [] ≡ slice_index_or table.rows (from + k) []

-- the registers of some rows, from place `from` on: there is a mark for each, and if they are not marked they are those
-- of the table
pub record CanTakeBlock (table : Table) (marks : List Bool) (from : ℕ) (cells : List ℕ)
    : Type 0 where
  pub inside : from + length marks ≤ length table.rows
  pub filled : length cells ≡ length marks * table.width
  pub same : (k : ℕ) → k < length marks → slice_index_or marks k false ≡ false →
      slice_index_or (pieces table.width (length marks) cells) k []
      ≡ slice_index_or table.rows (from + k) []
