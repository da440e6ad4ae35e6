use Rattle.figures.proofs.PieceLemmas.{IsMoved}
use Rattle.figures.proofs.estimates.moved_by_pieces.Given as goal

abbrev pub invariant-loop-j : goal.invariant-loop-j
invariant-loop-j l = IsMoved l.weight l.moved l.places l.count l.j l.old l.new
