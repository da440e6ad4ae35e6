use Rattle.std.proofs.Common.{◌≡◌, ℕ, ◌-◌, ◌<◌, ◌≤◌, true, false, List, length, slice_index_or}
use Rattle.replica.specs.Spread.{rows_after_all, marked_rows, AreTouched, CanSpreadRows}
use Rattle.replica.proofs.spread.spread_in_turn.Given as goal

abbrev pub invariant-loop-i : goal.invariant-loop-i
invariant-loop-i l = record {
  in_range : l.i ≤ length l.own.marks.now;
  marked : l.i < length l.own.marks.now → slice_index_or l.own.marks.now l.i false ≡ true;
  rows : l.accumulated ≡ record l.initial.accumulated { rows = rows_after_all l.own.targets.now (marked_rows l.own.part.now.plan.parts l.own.part.now.number l.own.rows.now.rows l.own.marks.now l.i) l.initial.accumulated.rows };
  touched : (own : List (List ℕ)) → AreTouched own l.initial.accumulated.rows l.initial.touched → AreTouched own l.accumulated.rows l.touched;
  can : CanSpreadRows l.own.targets.now l.own.rows.now.width l.accumulated l.touched;
}

abbrev pub decreases-loop-i : goal.decreases-loop-i
decreases-loop-i l = length l.own.marks.now - l.i
