use Rattle.std.proofs.Common.{◌-◌, ◌≤◌}
use Rattle.checkpoint.specs.Reading.{needs, Grows}
use Rattle.checkpoint.proofs.stream.read_more.Given as goal

-- what is no more left was read
abbrev pub invariant-loop-left : goal.invariant-loop-left
invariant-loop-left g l = record {
  within : l.left ≤ l.count;
  so_far : Grows g.R.Read.remaining g.R.CountedRead.failed_calls g.R.CountedRead.sure_calls (needs (l.count - l.left)) (l.count - l.left) l.initial.reader l.reader l.initial.text l.text;
}

abbrev pub decreases-loop-left : goal.decreases-loop-left
decreases-loop-left g l = l.left
