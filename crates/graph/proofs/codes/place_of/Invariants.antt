use Rattle.std.proofs.Common.{◌+◌, ◌-◌, ◌≤◌, length}
use Rattle.std.specs.Prelude.{reverse}
use Rattle.graph.specs.Edges.{below}
use Rattle.graph.proofs.codes.place_of.Given as goal

abbrev pub invariant-loop-low : goal.invariant-loop-low
invariant-loop-low l = record {
  order : l.low ≤ l.high;
  before : l.low + below (reverse l.edges) l.target ≤ length l.edges;
  after : length l.edges ≤ l.high + below (reverse l.edges) l.target;
  inside : l.high ≤ length l.edges;
}

abbrev pub decreases-loop-low : goal.decreases-loop-low
decreases-loop-low l = l.high - l.low
