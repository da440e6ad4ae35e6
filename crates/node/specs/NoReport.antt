-- Why no report is gathered, or not all of it.
use Rattle.std.specs.Prelude.{◌≡◌, ◌≢◌, ⊤, ◌⊎◌, ℕ, ◌<◌, ◌≤◌, Bool, false, true, List, [], ◌∷◌, ◌++◌, length, if◌then◌else◌, codes, Option, None, Some}
use Rattle.std.specs.Io.KnownBytes.{Consumes, IsAtEnd, Keeps}
use Rattle.std.specs.Str.{bytes_eq}
use Rattle.ball_model.specs.Input.{Network}
use Rattle.ball_model.specs.Job.{Job, PartValue, job_of, part_of}
use Rattle.ball_model.specs.PlanValue.{PlanValue}
use Rattle.ball_model.specs.RunText.{Settings}
use Rattle.ball_model.specs.State.{State}
use Rattle.ball_model.specs.Streams.{PutsFront}
use Rattle.checkpoint.specs.Reading.{most_checkpoint_bytes}
use Rattle.checkpoint.specs.declared.error.KeepError.{KeepError}
use Rattle.checkpoint.specs.declared.error.KeepError.TheVariants as unkept
use Rattle.report.specs.Ready.{are_ready, job_report}
use Rattle.world.specs.Script.{cut_of}
use Rattle.node.specs.declared.error.GatherError.{GatherError}
use Rattle.node.specs.declared.error.GatherError.TheVariants as fault
use Rattle.job.specs.declared.error.InputError.{InputError}
use Rattle.node.specs.Gathering.{AreGivenBack, AreOfAnEnd, AreCheckpointsFrom, ReadsAll, part_line, part_text, parts_text}
use Rattle.job.specs.Input.{IsJobRead}
use Rattle.job.specs.NoJob.{IsNoJob}
use Rattle.node.specs.NodeText.{size_in}
use Rattle.node.specs.Refusals.{IsNoCheckpoint}
use Rattle.node.specs.Stream.{HasNoEnd}
use Rattle.node.specs.declared.input.TheConstants.{MOST_LINE}

-- ---- the line before a checkpoint
abbrev pub length_behind : Option (List ℕ × List ℕ) → Option ℕ
length_behind None = None
length_behind (Some words) = if bytes_eq words.0 (codes "part") then size_in words.1 else None

-- the length in a line: the word part, a space, and a length
abbrev pub part_length : List ℕ → Option ℕ
part_length line = length_behind (cut_of 32 line)

-- a line that has none, or one that is longer than any that has
pub record NoPartLine (left left' : Option (List ℕ)) : Type 0 where
  pub line : List ℕ
  pub one_line : HasNoEnd line
  pub read : (Consumes left left' (line ++ 10 ∷ []) × (part_length line ≡ None))
      ⊎ (Consumes left left' line × (MOST_LINE ≤ length line))

-- ---- one checkpoint
-- nothing is left
pub record IsMissing (left left' : Option (List ℕ)) : Type 0 where
  pub end : IsAtEnd left'
  pub consumed : Consumes left left' []

-- more bytes are announced than any checkpoint of the part has
pub record IsTooLong (part : PartValue) (left left' : Option (List ℕ)) : Type 0 where
  pub size : ℕ
  pub consumed : Consumes left left' (part_line size)
  pub beyond : most_checkpoint_bytes part part.plan.limit < size

-- a line and fewer bytes than it announces
pub record IsCutPart (front : List ℕ) : Type 0 where
  pub size : ℕ
  pub body : List ℕ
  pub fewer : length body < size
  pub front_is : front ≡ part_line size ++ body

-- the input ended within the line, or within the checkpoint
pub record EndsWithin (left left' : Option (List ℕ)) : Type 0 where
  pub front : List ℕ
  pub some : front ≢ []
  pub within : HasNoEnd front ⊎ IsCutPart front
  pub consumed : Consumes left left' front
  pub end : IsAtEnd left'

-- a line and as many bytes as it announces, which are no more than any checkpoint of the part has
pub record IsPartText (part : PartValue) (front : List ℕ) : Type 0 where
  pub body : List ℕ
  pub few : length body ≤ most_checkpoint_bytes part part.plan.limit
  pub front_is : front ≡ part_text body

-- what was announced was read, and is no checkpoint of the part
pub record ReadsNoCheckpoint (part : PartValue) (left left' : Option (List ℕ))
    (e : KeepError) : Type 0 where
  pub body : List ℕ
  pub consumed : Consumes left left' (part_text body)
  pub no_checkpoint : IsNoCheckpoint part body e

-- what a refusal of a checkpoint of partition p is answered as
abbrev pub checkpoint_fault : ℕ → KeepError → GatherError
checkpoint_fault p unkept.Memory = fault.Memory
checkpoint_fault p e = fault.Checkpoint p e

-- nothing was read, or the first byte of a line, or all of what a line announces, which is no more than a checkpoint of
-- the part has
pub record LacksPartRoom (part : PartValue) (left left' : Option (List ℕ)) : Type 0 where
  pub front : List ℕ
  pub within : (front ≡ []) ⊎ ((HasNoEnd front × (length front ≡ 1)) ⊎ IsPartText part front)
  pub consumed : Consumes left left' front

-- the checkpoint of the part was not read, for this fault; of a failed read nothing is said
abbrev pub IsNoReplica : PartValue → Option (List ℕ) → Option (List ℕ) → GatherError → Type 0
IsNoReplica part left left' (fault.Missing q) = (q ≡ part.number) × IsMissing left left'
IsNoReplica part left left' (fault.Line q) = (q ≡ part.number) × NoPartLine left left'
IsNoReplica part left left' (fault.Length q) = (q ≡ part.number) × IsTooLong part left left'
IsNoReplica part left left' (fault.Cut q) = (q ≡ part.number) × EndsWithin left left'
IsNoReplica part left left' (fault.Checkpoint q e) =
    (q ≡ part.number) × ReadsNoCheckpoint part left left' e
IsNoReplica part left left' fault.Memory = LacksPartRoom part left left'
IsNoReplica part left left' fault.Read = ⊤
IsNoReplica part left left' e = ⊥

-- ---- all checkpoints
-- those before partition p were read, and its own was not
pub record StopsAtPart (j : Job) (left left' : Option (List ℕ)) (e : GatherError) : Type 0 where
  pub p : ℕ
  pub below : p < j.plan.parts
  pub replicas : List State
  pub mid : Option (List ℕ)
  pub before : ReadsAll j p left mid replicas
  pub at : IsNoReplica (part_of j p) mid left' e

-- all were read, and a byte follows
pub record BytesFollow (j : Job) (left left' : Option (List ℕ)) : Type 0 where
  pub replicas : List State
  pub mid : Option (List ℕ)
  pub before : ReadsAll j j.plan.parts left mid replicas
  pub byte : ℕ
  pub consumed : Consumes mid left' (byte ∷ [])

-- all were read, nothing follows, and they are not ready to be reported
pub record AreUnready (j : Job) (left left' : Option (List ℕ)) : Type 0 where
  pub replicas : List State
  pub mid : Option (List ℕ)
  pub before : ReadsAll j j.plan.parts left mid replicas
  pub end : IsMissing mid left'
  pub unready : are_ready replicas ≡ false

-- all were read, nothing follows, and they are ready to be reported
pub record AreGathered (j : Job) (left left' : Option (List ℕ)) : Type 0 where
  pub replicas : List State
  pub before : ReadsAll j j.plan.parts left left' replicas
  pub end : IsAtEnd left'
  pub ready : are_ready replicas ≡ true

-- memory was refused before the checkpoint of some partition, or when all of it was there, or for the report
abbrev pub LacksReportRoom : Job → Option (List ℕ) → Option (List ℕ) → Type 0
LacksReportRoom j left left' = StopsAtPart j left left' fault.Memory ⊎ AreGathered j left left'

-- there is no report of the checkpoints of a job, for this fault; of failed calls nothing is said
abbrev pub IsNoReport : Job → Option (List ℕ) → Option (List ℕ) → GatherError → Type 0
IsNoReport j left left' (fault.Job e) = ⊥
IsNoReport j left left' (fault.Missing p) = StopsAtPart j left left' (fault.Missing p)
IsNoReport j left left' (fault.Line p) = StopsAtPart j left left' (fault.Line p)
IsNoReport j left left' (fault.Length p) = StopsAtPart j left left' (fault.Length p)
IsNoReport j left left' (fault.Cut p) = StopsAtPart j left left' (fault.Cut p)
IsNoReport j left left' (fault.Checkpoint p e) = StopsAtPart j left left' (fault.Checkpoint p e)
IsNoReport j left left' fault.Trailing = BytesFollow j left left'
IsNoReport j left left' fault.NotReady = AreUnready j left left'
IsNoReport j left left' fault.Memory = LacksReportRoom j left left'
IsNoReport j left left' fault.Read = ⊤
IsNoReport j left left' fault.Write = ⊤

-- the job of the input was read, and there is no report of its checkpoints
pub record StopsAfterJob (s : Settings) (counted : Bool) (left left' : Option (List ℕ))
    (e : GatherError) : Type 0 where
  pub network : Network
  pub plan : PlanValue
  pub mid : Option (List ℕ)
  pub job : IsJobRead s counted left mid network plan
  pub refused : IsNoReport (job_of network.graph plan) mid left' e

-- or the input says no job
abbrev pub HasNoReport : Settings → Bool → Option (List ℕ) → Option (List ℕ) → GatherError → Type 0
HasNoReport s counted left left' e =
    ((x : InputError) × (e ≡ fault.Job x) × IsNoJob s counted left left' x)
    ⊎ StopsAfterJob s counted left left' e

-- ---- what was written
-- it is a fault that comes before the first byte is written
abbrev pub IsUnwritten : GatherError → Type 0
IsUnwritten fault.Memory = ⊥
IsUnwritten fault.Write = ⊥
IsUnwritten e = ⊤

-- checkpoints of the end of a run were read, and a beginning of the report was appended if they stand for the job
pub record GathersFront (j : Job) (labels : List (List ℕ)) (left left' : Option (List ℕ))
    (old new : Option (List ℕ)) : Type 0 where
  pub bodies : List (List ℕ)
  pub count : length bodies ≡ j.plan.parts
  pub parts : AreCheckpointsFrom j 0 bodies
  pub ready : AreOfAnEnd j bodies
  pub consumed : Consumes left left' (parts_text bodies)
  pub end : IsAtEnd left'
  pub front : AreGivenBack j 0 bodies → PutsFront old new (job_report j labels)

-- nothing was, or such a beginning
abbrev pub WritesFront : Job → List (List ℕ) → Option (List ℕ) → Option (List ℕ) →
    Option (List ℕ) → Option (List ℕ) → Type 0
WritesFront j labels left left' old new = Keeps old new ⊎ GathersFront j labels left left' old new

-- the job of the input was read, and a beginning of its report was appended
pub record GathersFrontOfJob (s : Settings) (counted : Bool)
    (left left' old new : Option (List ℕ)) : Type 0 where
  pub network : Network
  pub plan : PlanValue
  pub mid : Option (List ℕ)
  pub job : IsJobRead s counted left mid network plan
  pub gathers : GathersFront (job_of network.graph plan) network.labels mid left' old new

abbrev pub WritesFrontOfJob : Settings → Bool → Option (List ℕ) → Option (List ℕ) →
    Option (List ℕ) → Option (List ℕ) → Type 0
WritesFrontOfJob s counted left left' old new =
    Keeps old new ⊎ GathersFrontOfJob s counted left left' old new
