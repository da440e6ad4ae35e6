use Rattle.std.proofs.Common.{◌≡◌, ◌-◌, ◌<◌, ◌≤◌, true, false, length, slice_index_or}
use Rattle.replica.specs.Heard.{StayTouched}
use Rattle.replica.specs.Spread.{rows_after_all, marked_rows}
use Rattle.replica.specs.Waiting.{CanRaiseAlong, rows_along}
use Rattle.replica.proofs.waiting.spread_waiting.Given as goal

abbrev pub invariant-loop-i : goal.invariant-loop-i
invariant-loop-i l = record {
  in_range : l.i ≤ length l.own.marks.now;
  marked : l.i < length l.own.marks.now → slice_index_or l.own.marks.now l.i false ≡ true;
  rows : rows_along l.own.rows.now.rows l.waiting.items l.accumulated.rows ≡ rows_after_all l.own.targets.now (marked_rows l.own.part.now.plan.parts l.own.part.now.number l.own.rows.now.rows l.own.marks.now l.i) l.initial.accumulated.rows;
  count : length l.accumulated.rows ≡ length l.initial.accumulated.rows;
  width : l.accumulated.width ≡ l.initial.accumulated.width;
  touched : StayTouched l.initial.accumulated.rows l.initial.touched l.accumulated.rows l.touched;
  can : CanRaiseAlong l.own.rows.now l.waiting.items l.accumulated l.touched;
  few : length l.waiting.items < 16;
}

abbrev pub decreases-loop-i : goal.decreases-loop-i
decreases-loop-i l = length l.own.marks.now - l.i
