use Rattle.std.proofs.Common.{◌≡◌}
use Rattle.replica.specs.Sent.{next_place, sent_batch}
use Rattle.replica.proofs.telling.Telling.send_rows.Given as goal

abbrev pub invariant-loop-k : goal.invariant-loop-k
invariant-loop-k l = l.batch ≡ sent_batch l.self.state l.self.target (next_place l.self l.k)
