use Rattle.gapcode.proofs.JoinLemmas.{Moving}
use Rattle.gapcode.proofs.places.moved_behind.Given as goal

abbrev pub invariant-loop-i : goal.invariant-loop-i
invariant-loop-i l = record {
  moving : Moving l.fn.places l.others l.joined l.by l.i;
}
