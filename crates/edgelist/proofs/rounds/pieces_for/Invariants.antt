use Rattle.std.proofs.Common.{◌≡◌, length}
use Rattle.std.specs.List.{All}
use Rattle.edgelist.specs.Rounds.{has_no_lines}
use Rattle.edgelist.proofs.rounds.pieces_for.Given as goal

abbrev pub invariant-loop-i : goal.invariant-loop-i
invariant-loop-i l = record {
  none : All has_no_lines l.pieces.items;
  count : length l.pieces.items ≡ l._i;
}
