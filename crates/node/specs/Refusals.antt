-- What is said of bytes that are no batch or no checkpoint.
use Rattle.std.specs.Prelude.{◌≡◌, ⊤, ◌⊎◌, ℕ, List, Err, IsOk}
use Rattle.replica.specs.Saved.{IsKeepable}
use Rattle.ball_model.specs.State.{State}
use Rattle.ball_model.specs.Job.{PartValue}
use Rattle.ball_model.specs.PlanValue.{PlanValue}
use Rattle.batches.specs.Reading.{batch_at}
use Rattle.checkpoint.specs.Reading.{IsOfBytes, IsReplicaSpelling, TellNone, sealed_form}
use Rattle.checkpoint.specs.declared.error.KeepError.{KeepError}
use Rattle.checkpoint.specs.declared.error.KeepError.TheVariants as unkept
use Rattle.node.specs.declared.session.Reply.{Reply}
use Rattle.node.specs.declared.session.Reply.TheVariants as reply

-- it is what a world answers
abbrev pub IsAnswered : Reply → Type 0
IsAnswered (reply.Answered a) = ⊤
IsAnswered (reply.NoBatch e) = ⊥
IsAnswered (reply.NoCheckpoint e) = ⊥

-- the bytes spell a batch of the plan, or the first check of them that fails is named
abbrev pub SaysOfBatch : PlanValue → List ℕ → Reply → Type 0
SaysOfBatch plan bytes (reply.Answered a) = IsOk (batch_at plan bytes)
SaysOfBatch plan bytes (reply.NoBatch e) = batch_at plan bytes ≡ Err e
SaysOfBatch plan bytes (reply.NoCheckpoint e) = ⊥

-- the form of the part refuses the bytes so, or they are of the form and say what no replica has
pub record IsNoCheckpoint (part : PartValue) (bytes : List ℕ) (e : KeepError) : Type 0 where
  pub of_bytes : IsOfBytes e
  pub due : (sealed_form part bytes ≡ Err e)
      ⊎ ((e ≡ unkept.Shape) × IsOk (sealed_form part bytes) × TellNone part bytes)

-- the bytes have the form of a checkpoint of the part, and are the spelling of a replica of it
pub record IsNodeCheckpoint (part : PartValue) (bytes : List ℕ) : Type 0 where
  pub form : IsOk (sealed_form part bytes)
  pub replica : State
  pub keepable : IsKeepable replica
  pub part_is : replica.part ≡ part
  pub spells : IsReplicaSpelling replica bytes

-- the bytes are a checkpoint of the part, or what they are refused for is named
abbrev pub SaysOfCheckpoint : PartValue → List ℕ → Reply → Type 0
SaysOfCheckpoint part bytes (reply.Answered a) = IsNodeCheckpoint part bytes
SaysOfCheckpoint part bytes (reply.NoBatch e) = ⊥
SaysOfCheckpoint part bytes (reply.NoCheckpoint e) = IsNoCheckpoint part bytes e
