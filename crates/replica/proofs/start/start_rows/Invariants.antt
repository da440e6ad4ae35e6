use Rattle.std.proofs.Common.{◌≡◌, ℕ, ◌^◌, ◌<◌, ◌≤◌, slice_index_or, length, [], replicate}
use Rattle.replica.specs.Start.{first_row}
use Rattle.replica.proofs.start.start_rows.Given as goal

abbrev pub invariant-loop-i : goal.invariant-loop-i
invariant-loop-i l = record {
  width : l.rows.width ≡ 2 ^ l.part.plan.log2m;
  count : length l.rows.rows ≡ length l.part.preds;
  done : (k : ℕ) → k < l.i → slice_index_or l.rows.rows k [] ≡ first_row l.part k;
  rest : (k : ℕ) → l.i ≤ k → k < length l.part.preds → slice_index_or l.rows.rows k [] ≡ replicate (2 ^ l.part.plan.log2m) 0;
}
