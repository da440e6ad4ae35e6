use Rattle.std.proofs.Common.{◌≡◌, ◌-◌, ◌≤◌, ◌++◌, length, replicate}
use Rattle.gapcode.proofs.places.put_marks.Given as goal

abbrev pub invariant-loop : goal.invariant-loop
invariant-loop l = record {
  so_far : l.marks.items ≡ l.fn.marks.items ++ replicate (l.counter - length l.fn.marks.items) l.entry;
  from : length l.fn.marks.items ≤ l.counter;
}
