-- Tables that differ in marked rows alone.
use Rattle.std.specs.Prelude.{◌≡◌, ◌<◌, ℕ, ◌*◌, Bool, false, List, [], length, slice_index_or}
use Rattle.ball_model.specs.Table.{Table}

-- how many registers a table has
abbrev pub room_for : Table → ℕ
room_for table = length table.rows * table.width

-- tables of one shape, with a mark for each row, and the same in each row that is not marked
pub record DifferWhere (marks : List Bool) (a b : Table) : Type 0 where
  pub width : a.width ≡ b.width
  pub count : length a.rows ≡ length b.rows
  pub marked : length marks ≡ length a.rows
  pub same : (i : ℕ) → i < length a.rows → slice_index_or marks i false ≡ false →
      slice_index_or a.rows i [] ≡ slice_index_or b.rows i []
