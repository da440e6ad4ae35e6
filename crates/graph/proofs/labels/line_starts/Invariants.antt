use Rattle.graph.proofs.TextLemmas.{StartsLines}
use Rattle.graph.proofs.labels.line_starts.Given as goal

abbrev pub invariant-loop-i : goal.invariant-loop-i
invariant-loop-i l = StartsLines l.text l.i l.starts
