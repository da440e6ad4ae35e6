use Rattle.std.proofs.Common.{◌≡◌, ℕ, ◌<◌, false, length, slice_index_or, take}
use Rattle.replica.specs.Spread.{touched_at}
use Rattle.replica.specs.Waiting.{rows_along}
use Rattle.replica.proofs.waiting.raise_along.Given as goal

abbrev pub invariant-loop-edge : goal.invariant-loop-edge
invariant-loop-edge l = record {
  rows : l.accumulated ≡ record l.initial.accumulated { rows = rows_along l.rows.rows (take l.edge-index l.edges) l.initial.accumulated.rows };
  marks : (i : ℕ) → i < length l.initial.accumulated.rows → slice_index_or l.touched i false ≡ touched_at l.initial.touched l.initial.accumulated.rows (rows_along l.rows.rows (take l.edge-index l.edges) l.initial.accumulated.rows) i;
}
