use Rattle.std.proofs.Common.{◌≡◌, length}
use Rattle.graph.proofs.CountLemmas.{marked_below}
use Rattle.graph.proofs.counting.count_marks.Given as goal

abbrev pub invariant-loop-v : goal.invariant-loop-v
invariant-loop-v l = l.count ≡ length (marked_below l.marks l.v)
