-- What the bytes of a checkpoint determine. Each is the contract of a function of src/laws.rt.
use Rattle.std.specs.Prelude.{◌≡◌, ◌≢◌, ℕ, false}
use Rattle.ball_model.specs.Checkpoint.{checkpoint_bytes, first_checkpoint_bytes, without_names}
use Rattle.ball_model.specs.Job.{Job}
use Rattle.ball_model.specs.State.{State, StandsFor, content_of}
use Rattle.replica.specs.Saved.{IsKeepable}

-- no two states of a part have one text of version 2
abbrev pub TextIsOne : Type 0
TextIsOne = (v w : State) → IsKeepable v → IsKeepable w → v.part ≡ w.part →
    checkpoint_bytes v ≡ checkpoint_bytes w → v ≡ w

-- two states of a part that have one text of version 1 differ in nothing but the batches that they hold
abbrev pub FirstTextTellsRest : Type 0
FirstTextTellsRest = (v w : State) → IsKeepable v → IsKeepable w → v.part ≡ w.part →
    first_checkpoint_bytes v ≡ first_checkpoint_bytes w → without_names v ≡ without_names w

-- no text is of both versions
abbrev pub VersionsDiffer : Type 0
VersionsDiffer = (v w : State) → first_checkpoint_bytes v ≢ checkpoint_bytes w

-- what version 1 is read as: a replica that stands for a partition of a job at a superstep stands for them without its
-- names too, and then it holds no batch
abbrev pub WithoutNamesStands : Type 0
WithoutNamesStands = (j : Job) (p t : ℕ) (v : State) → StandsFor j p t v →
    StandsFor j p t (without_names v)
    × ((s q : ℕ) → (content_of (without_names v)).holds s q ≡ false)
