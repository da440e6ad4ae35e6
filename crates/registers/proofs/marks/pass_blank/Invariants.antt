use Rattle.std.proofs.Common.{◌-◌, ◌≤◌, length}
use Rattle.registers.specs.Marks.{AreBlank}
use Rattle.registers.proofs.marks.pass_blank.Given as goal

abbrev pub invariant-loop-i : goal.invariant-loop-i
invariant-loop-i l = record {
  low : l.from ≤ l.i;
  high : l.i ≤ length l.marks;
  blank : AreBlank l.marks l.from l.i;
}

abbrev pub decreases-loop-i : goal.decreases-loop-i
decreases-loop-i l = length l.marks - l.i
