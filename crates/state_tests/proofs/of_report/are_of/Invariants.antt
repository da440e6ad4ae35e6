use Rattle.std.proofs.Common.{◌≡◌, ◌<◌, ℕ, get_or}
use Rattle.ball_model.specs.State.{State}
use Rattle.state_tests.proofs.of_report.are_of.Given as goal

abbrev pub invariant-loop-replica : goal.invariant-loop-replica
invariant-loop-replica l = record {
  same : (k : ℕ) (d : State) → k < l.replica-index → (get_or l.replicas k d).part.plan.vertices ≡ l.graph.graph.vertices;
}
