use Rattle.std.proofs.Common.{◌≡◌, ◌+◌, ◌-◌, length}
use Rattle.std.specs.Io.KnownBytes.{prepend_known}
use Rattle.job.specs.declared.limits.TheConstants.{MOST_BYTES}
use Rattle.job.proofs.SectionLemmas.{Passed}
use Rattle.job.proofs.input.read_list.Given as goal

abbrev pub invariant-loop-cut : goal.invariant-loop-cut
invariant-loop-cut g l = record {
  passed : Passed l.list.items l.cut.begins (g.R.Read.remaining l.initial.reader) (prepend_known l.cut.ahead.items (g.R.Read.remaining l.reader));
  counted : g.R.CountedRead.failed_calls l.reader ≡ g.R.CountedRead.failed_calls l.initial.reader;
}

abbrev pub decreases-loop-cut : goal.decreases-loop-cut
decreases-loop-cut g l = MOST_BYTES + 1 - length l.list.items
