-- What the spelling of batches means. Each is the contract of a function of src/laws.rt.
use Rattle.std.specs.Prelude.{◌≡◌, ◌<◌, ◌≤◌, ◌+◌, ◌*◌, ◌^◌, ℕ, List, length, Ok}
use Rattle.std.specs.List.{All}
use Rattle.ball_model.specs.PlanValue.{PlanValue}
use Rattle.ball_model.specs.declared.names.BatchName.{BatchName}
use Rattle.ball_model.specs.Job.{Job, IsJob}
use Rattle.ball_model.specs.Batches.{BatchValue, IsBatch, batch_bytes, true_batch}
use Rattle.batches.specs.declared.header.TheConstants.{HEADER_LEN}
use Rattle.batches.specs.declared.rows.TheConstants.{ID_LEN}
use Rattle.batches.specs.Reading.{batch_at, AgreesButJob}

-- the spelling of a batch is read as that batch, under its plan whatever the plan's digest
abbrev pub BatchSpellingIsRead : Type 0
BatchSpellingIsRead = (plan : PlanValue) (b : BatchValue) → IsBatch b → AgreesButJob plan b.plan →
    batch_at plan (batch_bytes b) ≡ Ok b

-- bytes that are read as a batch are its spelling: no batch has two
abbrev pub BatchSpellingIsOne : Type 0
BatchSpellingIsOne = (plan : PlanValue) (bytes : List ℕ) (b : BatchValue) →
    All (λ x. x < 256) bytes → batch_at plan bytes ≡ Ok b → bytes ≡ batch_bytes b

-- no bytes spell two batches of a plan
abbrev pub BatchIsOne : Type 0
BatchIsOne = (a b : BatchValue) → IsBatch a → IsBatch b → AgreesButJob a.plan b.plan →
    batch_bytes a ≡ batch_bytes b → a ≡ b

-- a batch has as many bytes as its fixed fields and, for each row, its vertex and its registers
abbrev pub SpellingHasLength : Type 0
SpellingHasLength = (b : BatchValue) → IsBatch b →
    length (batch_bytes b) ≡ HEADER_LEN + length b.rows * (ID_LEN + 2 ^ b.plan.log2m)

-- a true batch is within the limits that every batch keeps
abbrev pub TrueIsBatch : Type 0
TrueIsBatch = (j : Job) (name : BatchName) → IsJob j → name.superstep ≤ j.plan.limit →
    name.source < j.plan.parts → name.target < j.plan.parts → IsBatch (true_batch j name)
