-- Reading a batch: what each field says, and the first check that fails.
use Rattle.std.specs.Prelude.{◌≡◌, ℕ, ◌+◌, ◌-◌, ◌*◌, ◌%◌, ◌^◌, ◌==◌, not, if◌then◌else◌, nat_lt, nat_le, List, [], ◌∷◌, ◌++◌, length, take, drop, slice_index, Result, Ok, Err, IsOk}
use Rattle.std.specs.List.{list_any}
use Rattle.std.specs.Int.{w16, w32, to_be_bytes}
use Rattle.ball_model.specs.Checks.{◌>>=◌}
use Rattle.ball_model.specs.PlanValue.{PlanValue, part_size}
use Rattle.ball_model.specs.Batches.{BatchValue}
use Rattle.batches.specs.declared.error.BatchError.{BatchError}
use Rattle.batches.specs.declared.error.BatchError.TheVariants as errors
use Rattle.batches.specs.declared.header.Header.{Header}
use Rattle.batches.specs.declared.header.TheConstants.{HEADER_LEN}
use Rattle.batches.specs.Kept.{field, first_rows}

-- the fixed fields, at their places
unfoldable pub head_at : List ℕ → Header
head_at bytes = record {
  magic = field w32 0 bytes;
  version = slice_index bytes 4;
  log2m = slice_index bytes 5;
  name = record {
    superstep = field w32 6 bytes;
    source = field w16 10 bytes;
    target = field w16 12 bytes;
  };
  job = take 32 (drop 14 bytes);
  changed = field w32 46 bytes;
  count = field w32 50 bytes;
}

-- the fixed fields as bytes
unfoldable pub head_bytes : Header → List ℕ
head_bytes h =
    to_be_bytes w32 h.magic ++ (h.version ∷ []) ++ (h.log2m ∷ [])
    ++ to_be_bytes w32 h.name.superstep ++ to_be_bytes w16 h.name.source
    ++ to_be_bytes w16 h.name.target
    ++ h.job ++ to_be_bytes w32 h.changed ++ to_be_bytes w32 h.count

-- HBBT
abbrev pub magic : ℕ
magic = 0x48424254

-- the checks of the fixed fields, in their order
unfoldable pub check_head : PlanValue → Header → Result (Unit {0}) BatchError
check_head plan h =
    if not (h.magic == magic) then Err errors.Magic
    else if not (h.version == 1) then Err errors.Version
    else if not (h.log2m == plan.log2m) then Err errors.Size
    else if nat_lt plan.limit h.name.superstep then Err errors.Name
    else if nat_le plan.parts h.name.source then Err errors.Name
    else if nat_le plan.parts h.name.target then Err errors.Name
    else if nat_lt (part_size plan.vertices plan.parts h.name.source) h.changed
    then Err errors.Count
    else if nat_lt h.changed h.count then Err errors.Count
    else Ok tt

-- the rows have the length that is wanted
unfoldable pub check_length : ℕ → ℕ → Result (Unit {0}) BatchError
check_length wanted len =
    if nat_lt len wanted then Err errors.Short else if nat_lt wanted len then Err errors.Trailing
    else Ok tt

-- a row is of a vertex of the source from least on, and has registers of at most 33
unfoldable pub check_row : PlanValue → ℕ → ℕ → ℕ × List ℕ → Result (Unit {0}) BatchError
check_row plan source least row =
    if nat_le plan.vertices row.0 then Err errors.Vertex
    else if not (row.0 % plan.parts == source) then Err errors.Vertex
    else if nat_lt row.0 least then Err errors.Order
    else if list_any (nat_lt 33) row.1 then Err errors.Rank
    else Ok tt

-- row by row, each above the one before
unfoldable pub check_rows : PlanValue → ℕ → ℕ → List (ℕ × List ℕ) → Result (Unit {0}) BatchError
check_rows plan source least [] = Ok tt
check_rows plan source least (row ∷ rows) = do
  fine ← check_row plan source least row
  check_rows plan source (row.0 + 1) rows

-- the fixed fields of bytes that pass all checks, or the first that fails
unfoldable pub check_at : PlanValue → List ℕ → Result Header BatchError
check_at plan bytes =
    if nat_lt (length bytes) HEADER_LEN then Err errors.Short else do
      head ← check_head plan (head_at bytes)
      whole ← check_length
          ((head_at bytes).count * (4 + 2 ^ plan.log2m)) (length bytes - HEADER_LEN)
      rows ← check_rows plan (head_at bytes).name.source 0
          (first_rows (2 ^ plan.log2m) (head_at bytes).count (drop HEADER_LEN bytes))
      Ok (head_at bytes)

-- the batch of a plan that fixed fields and rows make: the job digest is theirs
abbrev pub batch_from : PlanValue → Header → List (ℕ × List ℕ) → BatchValue
batch_from plan h rows = record {
  plan = record plan { job = h.job };
  name = h.name;
  changed = h.changed;
  rows = rows;
}

-- the batch that bytes spell under a plan, or the first check that fails
abbrev pub batch_at : PlanValue → List ℕ → Result BatchValue BatchError
batch_at plan bytes = do
  head ← check_at plan bytes
  Ok (batch_from plan head (first_rows (2 ^ plan.log2m) head.count (drop HEADER_LEN bytes)))

-- the answer is the one that is due, or, if that is a batch, memory ran out
abbrev pub GivesBatchOrMemory : Result BatchValue BatchError → Result BatchValue BatchError → Type 0
GivesBatchOrMemory (Ok b) due = Ok b ≡ due
GivesBatchOrMemory (Err errors.Memory) due = IsOk due
GivesBatchOrMemory (Err e) due = Err e ≡ due

-- two plans are the same but for the job digest
abbrev pub AgreesButJob : PlanValue → PlanValue → Type 0
AgreesButJob plan other = other ≡ record plan { job = other.job }
