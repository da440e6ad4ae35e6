use Rattle.std.proofs.Common.{◌≤◌, ◌-◌}
use Rattle.gapcode.proofs.lists.middle_of.Given as goal

abbrev pub invariant-loop-low : goal.invariant-loop-low
invariant-loop-low l = record {
  first : l.from ≤ l.low;
  order : l.low ≤ l.high;
  last : l.high ≤ l.to;
}

abbrev pub decreases-loop-low : goal.decreases-loop-low
decreases-loop-low l = l.high - l.low
