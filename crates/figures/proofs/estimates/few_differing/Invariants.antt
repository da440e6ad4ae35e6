use Rattle.std.proofs.Common.{◌*◌, ◌≤◌}
use Rattle.figures.specs.Values.{PiecesDifferAt}
use Rattle.figures.proofs.estimates.few_differing.Given as goal

abbrev pub invariant-loop-k : goal.invariant-loop-k
invariant-loop-k l = record {
  few : 4 * l.count ≤ l.pieces;
  places : PiecesDifferAt l.places l.count l.k l.old l.new;
}
