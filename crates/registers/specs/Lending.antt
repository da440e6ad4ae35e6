-- What a table becomes whose registers are lent.
use Rattle.std.specs.Prelude.{ℕ, List, ◌++◌, length, take, drop}
use Rattle.std.specs.Borrow.{Lends, MutBor, Fml, u8, Array}
use Rattle.std.specs.List.{concat}
use Rattle.ball_model.specs.Table.{Table, pieces}
use Rattle.registers.specs.Differ.{room_for}
use Rattle.registers.specs.contracts.rows.Rows.{the_row}

-- the table with other registers: fewer are filled up from its own, and what is over is left out
abbrev pub with_cells : Table → List ℕ → Table
with_cells table cells = record table {
  rows = pieces table.width (length table.rows)
      (take (room_for table) (cells ++ drop (length cells) (concat table.rows)));
}

-- the table ends with the registers that r has at last
abbrev pub LendsCells : MutBor Table → MutBor (List ℕ) → Fml
LendsCells s r = Lends the_row (Array u8 0) s r (with_cells s.now)
