use Rattle.std.proofs.Common.{◌≡◌, ◌++◌, ◌-◌, ◌≤◌}
use Rattle.std.specs.Prelude.{reverse}
use Rattle.graph.specs.Codes.{AreTurned, sources_between}
use Rattle.graph.specs.Edges.{source_lists}
use Rattle.graph.proofs.codes.code_rounds.Given as goal

abbrev pub invariant-loop-from : goal.invariant-loop-from
invariant-loop-from g l = record {
  order : l.from ≤ l.count;
  turned : AreTurned l.count l.from l.edges.items;
  lists : l.builder ++ sources_between l.count (reverse l.edges.items) l.from l.count ≡ source_lists l.count (reverse l.fn.edges.items);
}

abbrev pub decreases-loop-from : goal.decreases-loop-from
decreases-loop-from g l = l.count - l.from
