use Rattle.std.proofs.Common.{◌≡◌, ◌≤◌, ℕ, map}
use Rattle.std.specs.List.{range_with_len}
use Rattle.std.specs.Vec.{vec_len, vec_capacity}
use Rattle.ball_model.specs.PlanValue.{part_size}
use Rattle.graph.proofs.OwnLemmas.{own_first}
use Rattle.graph.proofs.part.own_of.Given as goal

abbrev pub invariant-loop-i : goal.invariant-loop-i
invariant-loop-i g l = record {
  items : (f : ℕ → g.row.T.Denot) → l.all ≡ map f (range_with_len 0 l.plan.vertices) → l.own.items ≡ map f (own_first l.plan.parts l.p l.i);
  len : vec_len l.own ≡ l.i;
  room : part_size l.plan.vertices l.plan.parts l.p ≤ vec_capacity l.own;
}
