use Rattle.std.proofs.Common.{◌≡◌, ◌+◌, length}
use Rattle.edgelist.proofs.piece.last_end.Given as goal

abbrev pub invariant-loop-i : goal.invariant-loop-i
invariant-loop-i l = record {
  left : l.end + l._i ≡ length l.lines;
}
