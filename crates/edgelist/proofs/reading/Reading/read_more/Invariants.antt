use Rattle.std.proofs.Common.{◌≤◌, ℕ, List, []}
use Rattle.edgelist.specs.Pieces.{IsPartRead, IsThrough}
use Rattle.graph.specs.Records.{IsLeft}
use Rattle.edgelist.specs.Reading.{limits_of, AreWithin}
use Rattle.edgelist.proofs.reading.Reading.read_more.Given as goal

abbrev pub invariant-loop-turn : goal.invariant-loop-turn
invariant-loop-turn g l = record {
  turns : l._turn ≤ l.n;
  in_range : l.n ≤ l.how.limits.edges;
  within : AreWithin l.how.limits.vertices l.n l.self.labels l.self.edges.items;
  part : (d : ℕ) (text : List ℕ) → IsLeft g.R.Read.remaining d text [] l.initial.reader → (before : List (List (List ℕ))) → IsThrough (limits_of l.how.limits) l.number before l.initial.self.labels l.initial.self.edges.items → IsPartRead g.R.Read.remaining d (limits_of l.how.limits) l.n before text l.reader l.self.labels l.self.edges.items;
}
