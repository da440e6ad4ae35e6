use Rattle.std.proofs.Common.{◌≡◌, ℕ, List, [], length}
use Rattle.graph.specs.Records.{IsLeft}
use Rattle.graph.proofs.CountLemmas.{Counts}
use Rattle.graph.proofs.counting.mark_all.Given as goal

abbrev pub invariant-loop-number : goal.invariant-loop-number
invariant-loop-number g l = record {
  size : length l.marks ≡ length l.index;
  counts : (d : ℕ) (text : List ℕ) → IsLeft g.R.Read.remaining d text [] l.initial.reader → Counts g.R.Read.remaining d l.index l.number text l.reader l.marks;
}
