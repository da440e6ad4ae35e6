use Rattle.std.proofs.Common.{◌≡◌, ◌≤◌, map}
use Rattle.std.specs.Vec.{vec_len, vec_capacity}
use Rattle.ball_model.specs.Graph.{is_counted}
use Rattle.ball_model.specs.PlanValue.{part_size}
use Rattle.graph.proofs.OwnLemmas.{own_first}
use Rattle.graph.proofs.part.own_counts.Given as goal

abbrev pub invariant-loop-i : goal.invariant-loop-i
invariant-loop-i l = record {
  items : l.counted.items ≡ map (is_counted l.graph.graph) (own_first l.plan.parts l.p l.i);
  len : vec_len l.counted ≡ l.i;
  room : part_size l.plan.vertices l.plan.parts l.p ≤ vec_capacity l.counted;
}
