-- The report of the checkpoints of all partitions.
use Rattle.std.specs.Prelude.{◌≡◌, ⊤, ℕ, ◌+◌, ◌≤◌, Bool, true, List, [], ◌∷◌, ◌++◌, length, Option, codes, decimal}
use Rattle.std.specs.List.{flat_map}
use Rattle.std.specs.Io.KnownBytes.{Appends, Consumes, IsAtEnd}
use Rattle.ball_model.specs.Input.{Network}
use Rattle.ball_model.specs.Job.{Job, job_of, part_of}
use Rattle.ball_model.specs.Join.{Holding}
use Rattle.ball_model.specs.PlanValue.{PlanValue}
use Rattle.ball_model.specs.RunText.{Settings}
use Rattle.ball_model.specs.State.{State}
use Rattle.ball_model.specs.WorldText.{words_line}
use Rattle.checkpoint.specs.Reading.{IsReplicaSpelling, most_checkpoint_bytes}
use Rattle.replica.specs.Saved.{IsKeepable}
use Rattle.report.specs.Ready.{are_ready, job_report}
use Rattle.report.specs.declared.write.ReportError.{ReportError}
use Rattle.report.specs.declared.write.ReportError.TheVariants as unreported
use Rattle.node.specs.declared.error.GatherError.{GatherError}
use Rattle.node.specs.declared.error.GatherError.TheVariants as fault
use Rattle.job.specs.Input.{IsJobRead}
use Rattle.node.specs.NodeText.{IsGivenBack}
use Rattle.node.specs.Refusals.{IsNodeCheckpoint}
use Rattle.node.specs.Turns.{Holds}

abbrev pub report_fault : ReportError → GatherError
report_fault unreported.Memory = fault.Memory
report_fault unreported.Write = fault.Write

-- ---- definitions

-- the line before a checkpoint, and the checkpoint
abbrev pub part_line : ℕ → List ℕ
part_line n = words_line (codes "part" ∷ decimal n ∷ [])

abbrev pub part_text : List ℕ → List ℕ
part_text body = part_line (length body) ++ body

-- those of partitions, one after the other
abbrev pub parts_text : List (List ℕ) → List ℕ
parts_text bodies = flat_map part_text bodies

-- each is a checkpoint that stands for the job, of partition p and those that follow
unfoldable pub AreGivenBack : Job → ℕ → List (List ℕ) → Type 0
AreGivenBack j p [] = ⊤
AreGivenBack j p (body ∷ bodies) =
    ((h : Holding) × IsGivenBack j p body h) × AreGivenBack j (p + 1) bodies

-- it is a checkpoint of partition p, and no longer than any
pub record IsCheckpointOf (j : Job) (p : ℕ) (body : List ℕ) : Type 0 where
  pub few : length body ≤ most_checkpoint_bytes (part_of j p) (part_of j p).plan.limit
  pub checkpoint : IsNodeCheckpoint (part_of j p) body

-- so is each, of partition p and those that follow
unfoldable pub AreCheckpointsFrom : Job → ℕ → List (List ℕ) → Type 0
AreCheckpointsFrom j p [] = ⊤
AreCheckpointsFrom j p (body ∷ bodies) =
    IsCheckpointOf j p body × AreCheckpointsFrom j (p + 1) bodies

-- a replica of partition p was made of these bytes, which are a spelling of it
pub record IsMadeOf (j : Job) (p : ℕ) (body : List ℕ) (v : State) : Type 0 where
  pub part_is : v.part ≡ part_of j p
  pub is : IsCheckpointOf j p body
  pub keepable : IsKeepable v
  pub spells : IsReplicaSpelling v body
  pub back : (h : Holding) → IsGivenBack j p body h → Holds j p h v

-- such replicas were made of such bytes, of partition p and those that follow
unfoldable pub AreMadeOf : Job → ℕ → List (List ℕ) → List State → Type 0
AreMadeOf j p [] [] = ⊤
AreMadeOf j p (body ∷ bodies) (v ∷ vs) = IsMadeOf j p body v × AreMadeOf j (p + 1) bodies vs
AreMadeOf j p bodies vs = ⊥

-- replicas were made of them, and these are ready to be reported: they are at one superstep, and each finds that the run
-- has ended
pub record AreOfAnEnd (j : Job) (bodies : List (List ℕ)) : Type 0 where
  pub replicas : List State
  pub made : AreMadeOf j 0 bodies replicas
  pub ready : are_ready replicas ≡ true

-- all that is left of the input is checkpoints, one of each partition, of the end of a run; and if they stand for the
-- job, its report was appended
pub record Gathers (j : Job) (labels : List (List ℕ)) (left left' : Option (List ℕ))
    (old new : Option (List ℕ)) : Type 0 where
  pub bodies : List (List ℕ)
  pub count : length bodies ≡ j.plan.parts
  pub parts : AreCheckpointsFrom j 0 bodies
  pub ready : AreOfAnEnd j bodies
  pub consumed : Consumes left left' (parts_text bodies)
  pub end : IsAtEnd left'
  pub report : AreGivenBack j 0 bodies → Appends old new (job_report j labels)

-- the job of the input was read, and all that follows it is such checkpoints
pub record GathersJob (s : Settings) (counted : Bool)
    (left left' old new : Option (List ℕ)) : Type 0 where
  pub network : Network
  pub plan : PlanValue
  pub mid : Option (List ℕ)
  pub job : IsJobRead s counted left mid network plan
  pub gathers : Gathers (job_of network.graph plan) network.labels mid left' old new

-- ---- how checkpoints are read

-- one, and the line before it
pub record ReadsCheckpoint (j : Job) (p : ℕ) (left left' : Option (List ℕ)) (v : State) :
    Type 0 where
  pub body : List ℕ
  pub consumed : Consumes left left' (part_text body)
  pub made : IsMadeOf j p body v

-- of the first n partitions
pub record ReadsAll (j : Job) (n : ℕ) (left left' : Option (List ℕ))
    (replicas : List State) : Type 0 where
  pub bodies : List (List ℕ)
  pub count : length bodies ≡ n
  pub consumed : Consumes left left' (parts_text bodies)
  pub made : AreMadeOf j 0 bodies replicas
