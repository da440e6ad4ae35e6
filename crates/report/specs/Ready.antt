-- Replicas of all partitions at the end of a run.
use Rattle.std.specs.Prelude.{◌≡◌, ℕ, ◌+◌, ◌<◌, Bool, true, false, ◌==◌, ◌&&◌, List, [], ◌∷◌, length, Option, None, Some, slice_index_or}
use Rattle.std.specs.Io.KnownBytes.{Appends}
use Rattle.ball_model.specs.declared.names.Verdict.{Verdict}
use Rattle.ball_model.specs.declared.names.Verdict.TheVariants as verdict
use Rattle.ball_model.specs.Input.{Network}
use Rattle.ball_model.specs.PlanValue.{PlanValue, mixing_of}
use Rattle.ball_model.specs.Content.{same_plan, verdict_of}
use Rattle.ball_model.specs.Job.{Job}
use Rattle.ball_model.specs.Report.{report_of}
use Rattle.ball_model.specs.State.{State, StandsFor, content_of}
use Rattle.ball_model.specs.Streams.{PutsFront}
use Rattle.replica.specs.Level.{found_verdict}

-- the verdict says that the run has ended
abbrev pub says_end : Option Verdict → Bool
says_end None = false
says_end (Some verdict.GoOn) = false
says_end (Some verdict.Stable) = true
says_end (Some verdict.Limit) = true

-- the verdict says that nothing changed
abbrev pub says_stable : Option Verdict → Bool
says_stable None = false
says_stable (Some verdict.GoOn) = false
says_stable (Some verdict.Stable) = true
says_stable (Some verdict.Limit) = false

-- a replica of partition p under the plan, at superstep t, whose verdict says that the run has ended
abbrev pub is_ready : PlanValue → ℕ → ℕ → State → Bool
is_ready plan t p v =
    (v.part.number == p) && same_plan plan v.part.plan && (v.superstep == t)
    && says_end (found_verdict v)

-- such replicas, of partition p and those that follow
unfoldable pub ready_from : PlanValue → ℕ → ℕ → List State → Bool
ready_from plan t p [] = true
ready_from plan t p (v ∷ vs) = is_ready plan t p v && ready_from plan t (p + 1) vs

-- a replica of each partition, in order, of one plan, at one superstep, whose verdicts say that the run has ended
unfoldable pub are_ready : List State → Bool
are_ready [] = false
are_ready (v ∷ vs) =
    (length (v ∷ vs) == v.part.plan.parts) && ready_from v.part.plan v.superstep 0 (v ∷ vs)

-- the replica at place p stands for partition p of the job, at its superstep
pub record AllStand (j : Job) (replicas : List State) : Type 0 where
  pub each : (p : ℕ) (d : State) → p < length replicas →
      StandsFor j p (slice_index_or replicas p d).superstep (slice_index_or replicas p d)

-- what is found in the replica is the verdict of each job for which it stands
abbrev pub FindsVerdict : State → Type 0
FindsVerdict v =
    (j : Job) (p t : ℕ) → StandsFor j p t v → found_verdict v ≡ verdict_of j p (content_of v)

-- the report of a job whose vertices have these labels
abbrev pub job_report : Job → List (List ℕ) → List ℕ
job_report j labels = report_of (mixing_of j.plan) j.graph labels j.plan.limit

-- a writer of these contents is given the report of each job of the network that all replicas stand for
abbrev pub AddsReportOfAll : {W : Type 0} → (W → Option (List ℕ)) → W → W → Network →
    List State → Type 0
AddsReportOfAll contents old new network replicas =
    (j : Job) → j.graph ≡ network.graph → AllStand j replicas →
    Appends (contents old) (contents new) (job_report j network.labels)

-- it is given a beginning of each of these reports, and not all of it
abbrev pub AddsFront : {W : Type 0} → (W → Option (List ℕ)) → W → W → Network → List State → Type 0
AddsFront contents old new network replicas =
    (j : Job) → j.graph ≡ network.graph → AllStand j replicas →
    PutsFront (contents old) (contents new) (job_report j network.labels)
