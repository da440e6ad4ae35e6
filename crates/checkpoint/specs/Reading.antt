-- Reading a checkpoint: what its bytes have to be, part by part, and the first refusal.
use Rattle.std.specs.Prelude.{◌≡◌, ◌≢◌, ℕ, zero, suc, ◌+◌, ◌-◌, ◌*◌, ◌/◌, ◌%◌, ◌^◌, ◌≤◌, ◌==◌, ◌&&◌, Bool, not, if◌then◌else◌, nat_lt, nat_le, List, ◌++◌, length, take, drop, slice_index, Option, Some, Result, Ok, Err, IsOk, ◌⊎◌, ⊤}
use Rattle.std.specs.Int.{w16, w32, w64, from_be_bytes}
use Rattle.std.specs.Io.KnownBytes.{Consumes, IsAtEnd}
use Rattle.std.specs.Str.{bytes_eq}
use Rattle.sha2.specs.Sha256.{sha256}
use Rattle.ball_model.specs.Checks.{◌>>=◌}
use Rattle.ball_model.specs.Checkpoint.{checkpoint_bytes, first_checkpoint_bytes, sealed, without_names}
use Rattle.ball_model.specs.Job.{PartValue}
use Rattle.ball_model.specs.PlanValue.{PlanValue, part_size}
use Rattle.ball_model.specs.State.{State}
use Rattle.ball_model.specs.Streams.{AfterAtMost, AreSure, RisesByOne, TakesAtMost}
use Rattle.batches.specs.Kept.{field}
use Rattle.batches.specs.declared.header.TheConstants.{HEADER_LEN as batch_head}
use Rattle.replica.specs.Saved.{IsKeepable}
use Rattle.replica.specs.declared.early.TheConstants.{LEVELS}
use Rattle.checkpoint.specs.declared.error.KeepError.{KeepError}
use Rattle.checkpoint.specs.declared.error.KeepError.TheVariants as errors
use Rattle.checkpoint.specs.declared.header.CheckpointHeader.{CheckpointHeader}
use Rattle.checkpoint.specs.Texts.{Adds}
use Rattle.checkpoint.specs.declared.text.Text.{Text}
use Rattle.checkpoint.specs.declared.sizes.TheConstants.{HEADER_LEN, ENTRY_LEN, SUM_LEN, HEARD_LEN, COUNT_LEN, LENGTH_LEN, DIGEST_LEN}

-- A form says how many of the bytes at the front are its own, or why they are refused.
abbrev pub Form : Type 0
Form = List ℕ → Result ℕ KeepError

-- n bytes, whatever they are
unfoldable pub needs : ℕ → Form
needs n bytes = if nat_lt (length bytes) n then Err errors.Short else Ok n

-- one form, and after it another, which may rest on the bytes of the first
unfoldable pub followed : Form → (List ℕ → Form) → Form
followed first second bytes = do
  n ← first bytes
  k ← second (take n bytes) (drop n bytes)
  Ok (n + k)

-- ---- the fixed fields
unfoldable pub checkpoint_head_at : List ℕ → CheckpointHeader
checkpoint_head_at bytes = record {
  magic = field w32 0 bytes;
  version = slice_index bytes 4;
  log2m = slice_index bytes 5;
  parts = field w16 6 bytes;
  partition = field w16 8 bytes;
  vertices = field w32 10 bytes;
  size = field w32 14 bytes;
  superstep = field w32 18 bytes;
  job = take 32 (drop 22 bytes);
}

-- HBCK
abbrev pub checkpoint_magic : ℕ
checkpoint_magic = 0x4842434b

-- the checks of the fixed fields, in their order
unfoldable pub check_checkpoint_head : PartValue → CheckpointHeader → Result (Unit {0}) KeepError
check_checkpoint_head part h =
    if not (h.magic == checkpoint_magic) then Err errors.Magic
    else if not (h.version == 1) && not (h.version == 2) then Err errors.Version
    else if not (bytes_eq h.job part.plan.job) then Err errors.OtherJob
    else if not (h.partition == part.number) then Err errors.OtherPart
    else if not (h.log2m == part.plan.log2m) then Err errors.Shape
    else if not (h.parts == part.plan.parts) then Err errors.Shape
    else if not (h.vertices == part.plan.vertices) then Err errors.Shape
    else if not (h.size == length part.preds) then Err errors.Shape
    else if nat_lt part.plan.limit h.superstep then Err errors.Shape
    else Ok tt

-- ---- what follows them
-- how many bytes there are up to the early batches: vertices and sums, and in version 2 what is heard
abbrev pub fixed_length : PartValue → CheckpointHeader → ℕ
fixed_length part h =
    length part.preds * (ENTRY_LEN + 2 ^ part.plan.log2m) + SUM_LEN * (h.superstep + 1)
    + (if h.version == 1 then 0 else HEARD_LEN + length part.preds * 2 ^ part.plan.log2m)

-- the length of a batch with at most as many rows as the first partition has vertices
unfoldable pub is_batch_length : PlanValue → ℕ → Bool
is_batch_length plan n =
    nat_le batch_head n && ((n - batch_head) % (4 + 2 ^ plan.log2m) == 0)
    && nat_le ((n - batch_head) / (4 + 2 ^ plan.log2m)) (part_size plan.vertices plan.parts 0)

-- the greatest such length
abbrev pub greatest_batch : PlanValue → ℕ
greatest_batch plan = batch_head + part_size plan.vertices plan.parts 0 * (4 + 2 ^ plan.log2m)

-- as many bytes as the length says
unfoldable pub told_batch : PlanValue → List ℕ → Form
told_batch plan number rest =
    if is_batch_length plan (from_be_bytes w64 number)
    then needs (from_be_bytes w64 number) rest else Err errors.Shape

-- a batch, and before it its length
abbrev pub batch_form : PlanValue → Form
batch_form plan = followed (needs LENGTH_LEN) (told_batch plan)

unfoldable pub batches_form : PlanValue → ℕ → Form
batches_form plan zero bytes = Ok 0
batches_form plan (suc n) bytes = followed (batch_form plan) (λ _. batches_form plan n) bytes

-- as many batches as the number says, which are at most three of each other partition
unfoldable pub told_batches : PlanValue → List ℕ → Form
told_batches plan number rest =
    if nat_lt (LEVELS * (plan.parts - 1)) (from_be_bytes w16 number) then Err errors.Shape
    else batches_form plan (from_be_bytes w16 number) rest

abbrev pub early_form : PlanValue → Form
early_form plan = followed (needs COUNT_LEN) (told_batches plan)

-- in version 2 there are early batches
unfoldable pub held_form : PlanValue → ℕ → Form
held_form plan version rest = if version == 1 then Ok 0 else early_form plan rest

abbrev pub body_form : PartValue → CheckpointHeader → Form
body_form part h = followed (needs (fixed_length part h)) (λ _. held_form part.plan h.version)

-- the fixed fields pass, and the rest follows
unfoldable pub told_body : PartValue → List ℕ → Form
told_body part head rest =
    check_checkpoint_head part (checkpoint_head_at head)
    >>= λ fine. body_form part (checkpoint_head_at head) rest

-- all that is before the digest
abbrev pub content_form : PartValue → Form
content_form part = followed (needs HEADER_LEN) (told_body part)

-- the digest of the content, and nothing after it
unfoldable pub seal_form : List ℕ → Form
seal_form content bytes =
    if nat_lt (length bytes) DIGEST_LEN then Err errors.Short
    else if not (bytes_eq (take DIGEST_LEN bytes) (sha256 content)) then Err errors.Digest
    else if nat_lt DIGEST_LEN (length bytes) then Err errors.Trailing
    else Ok DIGEST_LEN

abbrev pub sealed_form : PartValue → Form
sealed_form part = followed (content_form part) seal_form

-- ---- what is read at most
abbrev pub most_early : PlanValue → ℕ
most_early plan = COUNT_LEN + LEVELS * (plan.parts - 1) * (LENGTH_LEN + greatest_batch plan)

abbrev pub most_checkpoint_body : PartValue → ℕ → ℕ
most_checkpoint_body part t =
    length part.preds * (ENTRY_LEN + 2 ^ part.plan.log2m) + SUM_LEN * (t + 1)
    + HEARD_LEN + length part.preds * 2 ^ part.plan.log2m + most_early part.plan

-- how much follows these fixed fields at most, up to the digest
abbrev pub most_after : PartValue → CheckpointHeader → ℕ
most_after part h = fixed_length part h + (if h.version == 1 then 0 else most_early part.plan)

-- the most that the fixed fields at the front of the bytes allow up to the digest
abbrev pub allowed_content : PartValue → List ℕ → ℕ
allowed_content part bytes =
    HEADER_LEN + most_after part (checkpoint_head_at (take HEADER_LEN bytes))

-- and with the digest, and one byte more
abbrev pub allowed : PartValue → List ℕ → ℕ
allowed part bytes = allowed_content part bytes + (DIGEST_LEN + 1)

-- what was read is no longer than it allows itself
pub record TakesWithin (most : List ℕ → ℕ) (old new : Option (List ℕ)) : Type 0 where
  pub bytes : List ℕ
  pub consumed : Consumes old new bytes
  pub few : length bytes ≤ most bytes

-- the length of a checkpoint of the part at superstep t with the most and the greatest early batches
abbrev pub most_checkpoint_bytes : PartValue → ℕ → ℕ
most_checkpoint_bytes part t = HEADER_LEN + most_checkpoint_body part t + DIGEST_LEN

-- ---- readers
-- a read failed
abbrev pub IsRead : KeepError → Type 0
IsRead errors.Read = ⊤
IsRead e = ⊥

-- the bytes decide
abbrev pub IsOfBytes : KeepError → Type 0
IsOfBytes errors.Read = ⊥
IsOfBytes errors.Memory = ⊥
IsOfBytes e = ⊤

-- memory was refused, or the bytes say what no replica has
abbrev pub IsOfBody : KeepError → Type 0
IsOfBody e = (e ≡ errors.Memory) ⊎ (e ≡ errors.Shape)

-- a reader with this rest of bytes, these failed calls and sure calls gave the bytes
pub record TakesBytes {R : Type 0} (remaining : R → Option (List ℕ)) (failed : R → ℕ)
    (sure : R → Option ℕ) (old new : R) (bytes : List ℕ) : Type 0 where
  pub consumed : Consumes (remaining old) (remaining new) bytes
  pub counted : failed new ≡ failed old
  pub calls : AfterAtMost (length bytes) (sure old) (sure new)

-- bytes of the form, `most` at most, were read and put after what was there
pub record Grows {R : Type 0} (remaining : R → Option (List ℕ)) (failed : R → ℕ)
    (sure : R → Option ℕ) (form : Form) (most : ℕ) (old new : R) (before after : Text) : Type 0
  where
    pub piece : List ℕ
    pub grown : Adds before after piece
    pub takes : TakesBytes remaining failed sure old new piece
    pub is_form : (rest : List ℕ) → form (piece ++ rest) ≡ Ok (length piece)
    pub few : length piece ≤ most

-- the fixed fields were read and put after what was there
pub record GrowsByHead {R : Type 0} (remaining : R → Option (List ℕ)) (failed : R → ℕ)
    (sure : R → Option ℕ) (old new : R) (before after : Text) (h : CheckpointHeader) : Type 0
  where
    pub grows : Grows remaining failed sure (needs HEADER_LEN) HEADER_LEN old new before after
    pub long : length grows.piece ≡ HEADER_LEN
    pub head : h ≡ checkpoint_head_at grows.piece

-- all that is before the digest was read, and it is no longer than its fixed fields allow
pub record GrowsByContent {R : Type 0} (remaining : R → Option (List ℕ)) (failed : R → ℕ)
    (sure : R → Option ℕ) (part : PartValue) (old new : R) (before after : Text)
    (h : CheckpointHeader) : Type 0 where
  pub grows : Grows remaining failed sure (content_form part)
      (HEADER_LEN + most_checkpoint_body part part.plan.limit) old new before after
  pub long : HEADER_LEN ≤ length grows.piece
  pub head : h ≡ checkpoint_head_at (take HEADER_LEN grows.piece)
  pub few : length grows.piece ≤ allowed_content part grows.piece

-- the text is all that the reader gave before a digest that is right, and it begins with these fixed fields
pub record IsText (told : Option (List ℕ)) (h : CheckpointHeader) (text : List ℕ) : Type 0 where
  pub head : h ≡ checkpoint_head_at (take HEADER_LEN text)
  pub long : HEADER_LEN ≤ length text
  pub is_sealed : (bytes : List ℕ) → told ≡ Some bytes → bytes ≡ sealed text

-- they were not, which is never for want of memory: a call failed that was not sure, or the bytes are refused
pub record Fails {R : Type 0} (remaining : R → Option (List ℕ)) (failed : R → ℕ)
    (sure : R → Option ℕ) (form : Form) (most : ℕ) (old new : R) (e : KeepError) : Type 0 where
  pub few : TakesAtMost most (remaining old) (remaining new)
  pub rises : IsRead e → RisesByOne (failed old) (failed new)
  pub counted : (IsRead e → ⊥) → failed new ≡ failed old
  pub unsure : AreSure (sure old) most → IsRead e → ⊥
  pub wanting : e ≢ errors.Memory
  pub due : (bytes : List ℕ) → remaining old ≡ Some bytes → IsOfBytes e → form bytes ≡ Err e

-- all bytes were read, `most` at most, and they are of the form
pub record Ends {R : Type 0} (remaining : R → Option (List ℕ)) (failed : R → ℕ) (form : Form)
    (most : ℕ) (old new : R) : Type 0 where
  pub few : TakesAtMost most (remaining old) (remaining new)
  pub end : IsAtEnd (remaining new)
  pub counted : failed new ≡ failed old
  pub whole : form few.bytes ≡ Ok (length few.bytes)
  pub is_form : (bytes : List ℕ) → remaining old ≡ Some bytes → IsOk (form bytes)

-- the bytes are a spelling of the replica: in version 2, or in version 1 of one that holds nothing
abbrev pub IsReplicaSpelling : State → List ℕ → Type 0
IsReplicaSpelling v bytes =
    (bytes ≡ checkpoint_bytes v) ⊎ ((bytes ≡ first_checkpoint_bytes v) × (v ≡ without_names v))

-- the bytes are the spelling of no replica of the part, in neither version
pub record TellNone (part : PartValue) (bytes : List ℕ) : Type 0 where
  pub second : (v : State) → IsKeepable v → v.part ≡ part → bytes ≢ checkpoint_bytes v
  pub first : (v : State) → IsKeepable v → v.part ≡ part → bytes ≢ first_checkpoint_bytes v

-- a call failed that was not sure, memory was refused, the form of the part refuses the bytes, or they are of the form and
-- say what no replica has
pub record RefusesAs {R : Type 0} (remaining : R → Option (List ℕ)) (failed : R → ℕ)
    (sure : R → Option ℕ) (part : PartValue) (most : ℕ) (old new : R) (e : KeepError) : Type 0 where
  pub few : TakesAtMost most (remaining old) (remaining new)
  pub rises : IsRead e → RisesByOne (failed old) (failed new)
  pub counted : (IsRead e → ⊥) → failed new ≡ failed old
  pub unsure : AreSure (sure old) most → IsRead e → ⊥
  pub due : (bytes : List ℕ) → remaining old ≡ Some bytes → IsOfBytes e →
      (sealed_form part bytes ≡ Err e)
      ⊎ ((e ≡ errors.Shape) × IsOk (sealed_form part bytes) × TellNone part bytes)

-- the fixed fields are there, and they are those of a replica of the part
pub record HasHead (part : PartValue) (bytes : List ℕ) : Type 0 where
  pub long : HEADER_LEN ≤ length bytes
  pub passes : check_checkpoint_head part (checkpoint_head_at (take HEADER_LEN bytes)) ≡ Ok tt

-- if it is Ok, or memory was refused, this is so
abbrev pub OnOkOrMemory : {A : Type 0} → Result A KeepError → Type 0 → Type 0
OnOkOrMemory (Ok x) has = has
OnOkOrMemory (Err e) has = e ≡ errors.Memory → has

-- it is Ok and has this, unless memory was refused or a read failed
abbrev pub IfOkButWant : {A : Type 0} → Result A KeepError → (A → Type 0) → Type 0
IfOkButWant (Ok x) has = has x
IfOkButWant (Err e) has = (e ≡ errors.Memory) ⊎ (e ≡ errors.Read)
