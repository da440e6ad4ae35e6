use Rattle.std.proofs.Common.{arith}
use Rattle.std.specs.Arc.{arc_value}
use Rattle.graph.proofs.EdgeLemmas.{links-edges, graph-edges}
use Rattle.graph.proofs.graph.Graph.of_edges.Goals as goal

pub invariant_of-result : goal.invariant_of-result
invariant_of-result c = rw c.new.ensures.items (links-edges c.args.labels (arc_value c.in_ok-lists.lists) c.len-number.result c.args.edges.items c.len-number.ensures (omega (arith, c.len-number.ensures)) c.in_ok-lists.ensures)

pub returns-clause-graph : goal.returns-clause-graph
returns-clause-graph c = rw (c.new.ensures.items, ← c.len-number.ensures) (graph-edges (arc_value c.in_ok-lists.lists) c.len-number.result c.args.edges.items c.in_ok-lists.ensures)
