use Rattle.std.proofs.Common.{subst, arith, length, ap}
use Rattle.std.specs.Arc.{arc_value}
use Rattle.ball_model.specs.Input.{Network}
use Rattle.ball_model.specs.Graph.{IsGraph}
use Rattle.graph.proofs.LinksLemmas.{graph_of-IsGraph, length-edges}
use Rattle.graph.proofs.graph.Graph.vertices.Goals as goal

pub returns-clause-graph : goal.returns-clause-graph
returns-clause-graph c = subst (λ (net : Network). IsGraph net.graph) c.self.view_is (graph_of-IsGraph (arc_value c.self.inside.lists) c.self.inside.marks.items c.self.invariant.ascend)

pub returns-clause-few_edges : goal.returns-clause-few_edges
returns-clause-few_edges c = omega (arith, rw c.deref.ensures at c.len.ensures.few, length-edges (arc_value c.self.inside.lists) 0, ap (λ (net : Network). length net.graph.edges) c.self.view_is)
