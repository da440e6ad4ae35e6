use Rattle.std.proofs.Common.{◌≡◌, ◌≤◌, ◌-◌, length, take}
use Rattle.std.specs.Io.KnownBytes.{Consumes}
use Rattle.ball_model.specs.Streams.{AfterAtMost}
use Rattle.ball_model.proofs.streams.whole.fill.Given as goal

-- the front of the buffer was read, and no call has failed
abbrev pub invariant-loop-at : goal.invariant-loop-at
invariant-loop-at g l = record {
  within : l.at ≤ length l.buf;
  size : length l.buf ≡ length l.initial.buf;
  read : Consumes (g.R.Read.remaining l.initial.reader) (g.R.Read.remaining l.reader) (take l.at l.buf);
  counted : g.R.CountedRead.failed_calls l.reader ≡ g.R.CountedRead.failed_calls l.initial.reader;
  sure : AfterAtMost l.at (g.R.CountedRead.sure_calls l.initial.reader) (g.R.CountedRead.sure_calls l.reader);
}

abbrev pub decreases-loop-at : goal.decreases-loop-at
decreases-loop-at g l = length l.initial.buf - l.at
