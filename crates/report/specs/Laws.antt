-- When replicas have a report, and that its sums fit. Each is the contract of a function of src/laws.rt.
use Rattle.std.specs.Prelude.{◌≡◌, ◌≤◌, ◌<◌, ◌^◌, ℕ, List, length, true}
use Rattle.std.specs.List.{All}
use Rattle.ball_model.specs.Counter.{Mixing}
use Rattle.ball_model.specs.Graph.{Graph}
use Rattle.ball_model.specs.Job.{Job, IsJob}
use Rattle.ball_model.specs.PlanValue.{greatest_log2m, least_log2m, most_vertices}
use Rattle.ball_model.specs.State.{State}
use Rattle.ball_model.specs.Supersteps.{total_at}
use Rattle.replica.specs.Level.{found_verdict, EndsRun}
use Rattle.report.specs.Ready.{AllStand, are_ready}

-- replicas of all partitions that stand for one job, each with the verdict Stable or Limit, are ready
abbrev pub EndedAreReady : Type 0
EndedAreReady = (j : Job) (replicas : List State) → IsJob j → length replicas ≡ j.plan.parts →
    AllStand j replicas → All (λ v. EndsRun (found_verdict v)) replicas →
    are_ready replicas ≡ true

-- the neighbourhood function of no more vertices than a plan may have is below 2^128
abbrev pub TotalsFit : Type 0
TotalsFit = (m : Mixing) (g : Graph) (t : ℕ) → least_log2m ≤ m.log2m → m.log2m ≤ greatest_log2m →
    g.vertices ≤ most_vertices → total_at m g t < 2 ^ 128
