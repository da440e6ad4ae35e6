use Rattle.std.proofs.Common.{◌≡◌, ◌*◌}
use Rattle.figures.proofs.SumLemmas.{so_far}
use Rattle.figures.proofs.estimates.sum.Given as goal

abbrev pub invariant-loop-k : goal.invariant-loop-k
invariant-loop-k l = l.sum ≡ so_far l.row (4 * l.k)
