use Rattle.std.proofs.Common.{◌≡◌}
use Rattle.node.proofs.StreamLemmas.{ReadsAllBut}
use Rattle.node.proofs.input.pass_over.Given as goal

abbrev pub invariant-loop-left : goal.invariant-loop-left
invariant-loop-left g l = record {
  read : ReadsAllBut l.size l.left (g.R.Read.remaining l.initial.reader) (g.R.Read.remaining l.reader);
  counted : g.R.CountedRead.failed_calls l.reader ≡ g.R.CountedRead.failed_calls l.initial.reader;
}

abbrev pub decreases-loop-left : goal.decreases-loop-left
decreases-loop-left g l = l.left
