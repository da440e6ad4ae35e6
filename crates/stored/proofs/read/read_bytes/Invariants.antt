use Rattle.std.proofs.Common.{◌-◌, ◌≤◌}
use Rattle.stored.specs.Reading.{needs, Tells}
use Rattle.stored.proofs.read.read_bytes.Given as goal

-- what is no more left was read
abbrev pub invariant-loop-left : goal.invariant-loop-left
invariant-loop-left g l = record {
  within : l.left ≤ l.count;
  so_far : Tells g.R.Read.remaining g.R.CountedRead.failed_calls g.R.CountedRead.sure_calls (needs (l.count - l.left)) l.initial.reader l.reader l.initial.hasher l.hasher l.kept.items;
}

abbrev pub decreases-loop-left : goal.decreases-loop-left
decreases-loop-left g l = l.left
