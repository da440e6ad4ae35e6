use Rattle.std.proofs.Common.{List, ℕ}
use Rattle.graph.specs.Records.{IsLeft}
use Rattle.edgelist.proofs.cut.Cut.push_all.Given as goal

abbrev pub invariant-loop-turn : goal.invariant-loop-turn
invariant-loop-turn g l = record {
  left : (d : ℕ) (text : List ℕ) → IsLeft g.R.Read.remaining d text l.initial.self l.initial.reader → IsLeft g.R.Read.remaining d text l.self l.reader;
}
