use Rattle.std.proofs.Common.{◌≡◌, ℕ, ◌<◌, slice_index_or, length, take, false}
use Rattle.replica.specs.Spread.{rows_after, touched_at}
use Rattle.replica.proofs.spread.raise_block.Given as goal

abbrev pub invariant-loop-place : goal.invariant-loop-place
invariant-loop-place l = record {
  rows : l.accumulated ≡ record l.initial.accumulated { rows = rows_after (take l.place-index l.places) l.registers l.initial.accumulated.rows };
  marks : (i : ℕ) → i < length l.initial.accumulated.rows → slice_index_or l.touched i false ≡ touched_at l.initial.touched l.initial.accumulated.rows (rows_after (take l.place-index l.places) l.registers l.initial.accumulated.rows) i;
}
