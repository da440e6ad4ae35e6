use Rattle.std.proofs.Common.{◌≡◌, get_or, length}
use Rattle.replica.specs.Sent.{changed_rows}
use Rattle.replica.proofs.replica.Replica.put_rows.Given as goal

abbrev pub invariant-loop-k : goal.invariant-loop-k
invariant-loop-k l = l.table.items ≡ changed_rows l.self (get_or l.vertices l.k (length l.self.part.preds))
