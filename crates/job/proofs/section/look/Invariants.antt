use Rattle.std.proofs.Common.{◌≡◌, ◌-◌, length}
use Rattle.std.specs.Io.KnownBytes.{Keeps, prepend_known}
use Rattle.job.specs.Section.{IsPast}
use Rattle.job.proofs.section.look.Given as goal

abbrev pub invariant-loop-reader : goal.invariant-loop-reader
invariant-loop-reader g l = record {
  same : Keeps (prepend_known l.initial.ahead.items (g.R.Read.remaining l.initial.reader)) (prepend_known l.ahead.items (g.R.Read.remaining l.reader));
  past : IsPast l.ahead.items;
  counted : g.R.CountedRead.failed_calls l.reader ≡ g.R.CountedRead.failed_calls l.initial.reader;
}

abbrev pub decreases-loop-reader : goal.decreases-loop-reader
decreases-loop-reader g l = 4 - length l.ahead.items
