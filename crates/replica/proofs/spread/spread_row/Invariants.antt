use Rattle.std.proofs.Common.{◌≡◌, ℕ, ◌<◌, [], length, slice_index_or}
use Rattle.replica.proofs.Names.{All}
use Rattle.std.specs.Slice.Iter.{chunks_rest}
use Rattle.replica.specs.Spread.{rows_after, touched_at}
use Rattle.replica.proofs.spread.spread_row.Given as goal

abbrev pub invariant-loop-block : goal.invariant-loop-block
invariant-loop-block l = record {
  can_next : goal.iterator-loop-block.can_next l.block-iterator;
  is_finite : goal.iterator-loop-block.is_finite l.block-iterator;
  inside : All (λ i. i < length l.initial.accumulated.rows) (chunks_rest l.block-iterator);
  width : l.accumulated.width ≡ l.initial.accumulated.width;
  count : length l.accumulated.rows ≡ length l.initial.accumulated.rows;
  rows : rows_after (chunks_rest l.block-iterator) l.registers l.accumulated.rows ≡ rows_after (slice_index_or l.targets l.z []) l.registers l.initial.accumulated.rows;
  marks : (i : ℕ) → i < length l.initial.accumulated.rows → touched_at l.touched l.accumulated.rows (rows_after (chunks_rest l.block-iterator) l.registers l.accumulated.rows) i ≡ touched_at l.initial.touched l.initial.accumulated.rows (rows_after (slice_index_or l.targets l.z []) l.registers l.initial.accumulated.rows) i;
}
