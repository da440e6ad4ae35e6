use Rattle.std.proofs.Common.{◌≡◌, ◌+◌, ◌*◌, ◌≤◌, length, map}
use Rattle.std.specs.List.{sum_by}
use Rattle.ball_model.specs.Graph.{preds_of}
use Rattle.graph.proofs.OwnLemmas.{own_first, left}
use Rattle.graph.proofs.part.own_lists.Given as goal

abbrev pub invariant-loop-i : goal.invariant-loop-i
invariant-loop-i l = record {
  lists : l.builder ≡ map (preds_of l.graph.graph) (own_first l.plan.parts l.p l.i);
  total : l.total ≡ sum_by length l.builder;
  room : l.total + left l.graph.graph l.graph.graph.vertices (l.i * l.plan.parts + l.p) ≤ length l.graph.graph.edges;
}
