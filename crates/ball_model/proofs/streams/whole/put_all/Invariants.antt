use Rattle.std.proofs.Common.{◌≡◌, ◌-◌, length}
use Rattle.ball_model.specs.Streams.{AfterAtMost}
use Rattle.ball_model.proofs.StreamLemmas.{IsPut}
use Rattle.ball_model.proofs.streams.whole.put_all.Given as goal

-- what is gone from `rest` was appended and took its room, and no call has failed
abbrev pub invariant-loop-rest : goal.invariant-loop-rest
invariant-loop-rest g l = record {
  put : IsPut l.initial.rest l.rest (g.W.Write.contents l.initial.writer) (g.W.Write.contents l.writer);
  counted : g.W.CountedWrite.failed_calls l.writer ≡ g.W.CountedWrite.failed_calls l.initial.writer;
  sure : AfterAtMost (length l.initial.rest - length l.rest) (g.W.CountedWrite.sure_calls l.initial.writer) (g.W.CountedWrite.sure_calls l.writer);
  room : g.W.CountedWrite.room l.writer ≡ g.W.CountedWrite.room l.initial.writer - (length l.initial.rest - length l.rest);
}

abbrev pub decreases-loop-rest : goal.decreases-loop-rest
decreases-loop-rest g l = length l.rest
