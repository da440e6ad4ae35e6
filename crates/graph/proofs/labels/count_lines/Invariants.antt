use Rattle.graph.proofs.TextLemmas.{CountsLines}
use Rattle.graph.proofs.labels.count_lines.Given as goal

abbrev pub invariant-loop-i : goal.invariant-loop-i
invariant-loop-i l = CountsLines l.text l.i l.begin l.count
