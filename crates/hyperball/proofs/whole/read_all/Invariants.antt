use Rattle.std.proofs.Common.{◌≡◌, ◌+◌, ◌-◌, length, None}
use Rattle.job.specs.declared.limits.TheConstants.{MOST_BYTES}
use Rattle.hyperball.proofs.WholeLemmas.{HasRead}
use Rattle.hyperball.proofs.whole.read_all.Given as goal

-- the bytes so far are what was read, and no call has failed
abbrev pub invariant-loop-bytes : goal.invariant-loop-bytes
invariant-loop-bytes g l = record {
  read : HasRead (g.R.Read.remaining l.initial.reader) (g.R.Read.remaining l.reader) l.bytes.items;
  size : length l.buffer ≡ length l.initial.buffer;
  failed : g.R.CountedRead.failed_calls l.reader ≡ g.R.CountedRead.failed_calls l.initial.reader;
  sure : g.R.CountedRead.sure_calls l.initial.reader ≡ None → g.R.CountedRead.sure_calls l.reader ≡ None;
}

abbrev pub decreases-loop-bytes : goal.decreases-loop-bytes
decreases-loop-bytes g l = MOST_BYTES + 1 - length l.bytes.items
