use Rattle.std.proofs.Common.{◌≡◌, ℕ, ◌+◌, ◌-◌, ◌<◌, ◌≤◌, [], length, slice_index_or}
use Rattle.ball_model.specs.Table.{pieces}
use Rattle.registers.proofs.takes.take_block.Given as goal

abbrev pub invariant-loop-k : goal.invariant-loop-k
invariant-loop-k l = record {
  in_range : l.k ≤ length l.marks;
  done : (j : ℕ) → j < l.k → slice_index_or (pieces l.ahead.width (length l.marks) l.cells) j [] ≡ slice_index_or l.ahead.rows (l.from + j) [];
  rest : (j : ℕ) → l.k ≤ j → slice_index_or (pieces l.ahead.width (length l.marks) l.cells) j [] ≡ slice_index_or (pieces l.ahead.width (length l.marks) l.initial.cells) j [];
}

abbrev pub decreases-loop-k : goal.decreases-loop-k
decreases-loop-k l = length l.marks - l.k
