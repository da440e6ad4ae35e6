-- Reading a stored graph: what the bytes at the front say, part by part, and the first refusal.
use Rattle.std.specs.Prelude.{◌≡◌, ⊤, ℕ, zero, suc, ◌+◌, ◌-◌, ◌<◌, ◌⊎◌, ◌==◌, ◌&&◌, ◌||◌, Bool, false, not, if◌then◌else◌, nat_lt, List, [], ◌∷◌, ◌++◌, length, take, drop, slice_index, slice_index_or, Option, None, Some, Result, Ok, Err}
use Rattle.std.specs.List.{sum_by}
use Rattle.std.specs.Int.{Width, byte_len, from_be_bytes, w32, w64}
use Rattle.std.specs.Io.KnownBytes.{Consumes}
use Rattle.std.specs.Str.{bytes_eq}
use Rattle.sha2.specs.Sha256.{sha256}
use Rattle.sha2.specs.declared.Sha256.{Sha256}
use Rattle.ball_model.specs.Checks.{◌>>=◌}
use Rattle.ball_model.specs.Input.{most_records}
use Rattle.ball_model.specs.PlanValue.{most_vertices}
use Rattle.ball_model.specs.Streams.{RisesByOne}
use Rattle.gapcode.specs.Lists.{all_of}
use Rattle.gapcode.specs.declared.error.CodeError.{CodeError}
use Rattle.gapcode.specs.declared.error.CodeError.TheVariants as code_fault
use Rattle.graph.specs.Lines.{labels_in}
use Rattle.graph.specs.Planning.{Hashes}
use Rattle.graph.specs.declared.labels.LinesError.{LinesError}
use Rattle.graph.specs.declared.labels.LinesError.TheVariants as lines_fault
use Rattle.stored.specs.Stored.{StoredValue, is_full}
use Rattle.stored.specs.declared.error.StoredError.{StoredError}
use Rattle.stored.specs.declared.error.StoredError.TheVariants as errors
use Rattle.stored.specs.declared.header.StoredHeader.{StoredHeader}
use Rattle.stored.specs.declared.sizes.TheConstants.{HEADER_LEN, BLOCK_HEAD_LEN, DIGEST_LEN}

-- A reading has what the bytes at the front say and how many they are, or why they are refused.
abbrev pub Reading : Type 0 → Type 0
Reading A = List ℕ → Result (A × ℕ) StoredError

-- n bytes
unfoldable pub needs : ℕ → Reading (List ℕ)
needs n bytes = if nat_lt (length bytes) n then Err errors.Short else Ok (take n bytes, n)

-- a check of what was read, which takes no bytes
unfoldable pub told : {A : Type 0} → Result A StoredError → Reading A
told (Ok x) bytes = Ok (x, 0)
told (Err e) bytes = Err e

-- one reading, and after it another, which may depend on what the first read
unfoldable pub followed : {A B : Type 0} → Reading A → (A → Reading B) → Reading B
followed first second bytes = do
  a ← first bytes
  b ← second a.0 (drop a.1 bytes)
  Ok (b.0, a.1 + b.1)

-- the refusal of lists, in the words of stored graphs
abbrev pub refusal_of : CodeError → StoredError
refusal_of code_fault.Ended = errors.Ended
refusal_of code_fault.TooLong = errors.TooLong
refusal_of code_fault.Range = errors.Range
refusal_of code_fault.Padding = errors.Padding
refusal_of code_fault.Trailing = errors.Behind
refusal_of code_fault.Memory = errors.Memory

-- the refusal of lines
abbrev pub lines_refusal : LinesError → StoredError
lines_refusal lines_fault.Lines = errors.Labels
lines_refusal lines_fault.Memory = errors.Memory

-- ---- the header
-- the number at a place
abbrev pub field : Width → ℕ → List ℕ → ℕ
field w at bytes = from_be_bytes w (take (byte_len w) (drop at bytes))

unfoldable pub stored_head_at : List ℕ → StoredHeader
stored_head_at bytes = record {
  magic = field w32 0 bytes;
  version = slice_index bytes 4;
  vertices = field w32 5 bytes;
  edges = field w64 9 bytes;
  labels = field w64 17 bytes;
}

-- HBGR
abbrev pub stored_magic : ℕ
stored_magic = 0x48424752

-- the checks of the header, in their order
unfoldable pub check_stored_head : StoredHeader → Result StoredHeader StoredError
check_stored_head h =
    if not (h.magic == stored_magic) then Err errors.Magic
    else if not (h.version == 1) then Err errors.Version
    else if nat_lt most_vertices h.vertices || nat_lt most_records h.edges then Err errors.Size
    else Ok h

abbrev pub head_reading : Reading StoredHeader
head_reading = followed (needs HEADER_LEN) (λ bytes. told (check_stored_head (stored_head_at bytes)))

-- ---- the labels
-- the labels, if there are any
abbrev pub labels_told : Option (List (List ℕ)) → Result (List (List ℕ)) StoredError
labels_told None = Err errors.Labels
labels_told (Some labels) = Ok labels

abbrev pub labels_reading : StoredHeader → Reading (List (List ℕ))
labels_reading h =
    followed (needs h.labels) (λ text. told (labels_told (labels_in h.vertices text)))

-- ---- the blocks
-- a block has a vertex, and no more than are left
unfoldable pub check_block_head : ℕ → List ℕ → Result (Unit {0}) StoredError
check_block_head left head =
    if (field w32 0 head == 0) || nat_lt left (field w32 0 head) then Err errors.Block else Ok tt

-- the lists that a code spells
abbrev pub lists_told : Result (List (List ℕ)) CodeError → Result (List (List ℕ)) StoredError
lists_told (Ok lists) = Ok lists
lists_told (Err e) = Err (refusal_of e)

-- a block that has begun has these lists too, and then ends: no list follows a full block, and the block is full at its
-- end or the last
unfoldable pub goes_on : Bool → List (List ℕ) → List (List ℕ) → Bool
goes_on last block [] = last || is_full block
goes_on last block (xs ∷ lists) = not (is_full block) && goes_on last (block ++ xs ∷ []) lists

abbrev pub is_block : Bool → List (List ℕ) → Bool
is_block last [] = false
is_block last (xs ∷ lists) = goes_on last (xs ∷ []) lists

unfoldable pub check_block : ℕ → List (List ℕ) → Result (List (List ℕ)) StoredError
check_block left lists =
    if is_block (length lists == left) lists then Ok lists else Err errors.Block

-- the lists of a block with `count` vertices, by its code
abbrev pub check_code : ℕ → ℕ → ℕ → List ℕ → Result (List (List ℕ)) StoredError
check_code n left count code = lists_told (all_of n count code) >>= check_block left

abbrev pub code_reading : ℕ → ℕ → List ℕ → Reading (List (List ℕ))
code_reading n left head =
    followed (needs (field w64 4 head)) (λ code. told (check_code n left (field w32 0 head) code))

-- the next block of a graph with n vertices, of which `left` are left
abbrev pub block_reading : ℕ → ℕ → Reading (List (List ℕ))
block_reading n left =
    followed (needs BLOCK_HEAD_LEN)
    (λ head. followed (told (check_block_head left head)) (λ _. code_reading n left head))

-- the blocks of the vertices that are left: no more than `most` blocks
unfoldable pub blocks_reading : ℕ → ℕ → ℕ → Reading (List (List ℕ))
blocks_reading n zero left bytes = Ok ([], 0)
blocks_reading n (suc most) left bytes =
    if left == 0 then Ok ([], 0)
    else followed (block_reading n left)
    (λ lists. followed (blocks_reading n most (left - length lists))
    (λ others. told (Ok (lists ++ others)))) bytes

-- ---- the whole
unfoldable pub check_edges : ℕ → StoredValue → Result StoredValue StoredError
check_edges edges v = if sum_by length v.preds == edges then Ok v else Err errors.Edges

-- all that is before the digest
abbrev pub content_reading : Reading StoredValue
content_reading =
    followed head_reading
    (λ h. followed (labels_reading h)
    (λ labels. followed (blocks_reading h.vertices h.vertices h.vertices)
    (λ preds. told (check_edges h.edges (record { labels = labels; preds = preds })))))

-- the digest of a content
unfoldable pub seal_reading : List ℕ → Reading (Unit {0})
seal_reading content bytes =
    if nat_lt (length bytes) DIGEST_LEN then Err errors.Short
    else if not (bytes_eq (take DIGEST_LEN bytes) (sha256 content)) then Err errors.Digest
    else Ok (tt, DIGEST_LEN)

-- a stored graph at the front of the bytes
unfoldable pub stored_reading : Reading StoredValue
stored_reading bytes = do
  content ← content_reading bytes
  seal ← seal_reading (take content.1 bytes) (drop content.1 bytes)
  Ok (content.0, content.1 + seal.1)

-- ---- readers
-- a read failed
abbrev pub IsRead : StoredError → Type 0
IsRead errors.Read = ⊤
IsRead e = ⊥

-- the bytes decide
abbrev pub IsOfBytes : StoredError → Type 0
IsOfBytes errors.Read = ⊥
IsOfBytes errors.Memory = ⊥
IsOfBytes e = ⊤

-- a reader whose bytes, failed calls and sure calls are known gave the bytes
pub record TakesBytes {R : Type 0} (remaining : R → Option (List ℕ)) (failed : R → ℕ)
    (sure : R → Option ℕ) (old new : R) (bytes : List ℕ) : Type 0 where
  pub consumed : Consumes (remaining old) (remaining new) bytes
  pub counted : failed new ≡ failed old
  pub calls : sure old ≡ None → sure new ≡ None

-- each is a byte
abbrev pub AreBytes : List ℕ → Type 0
AreBytes bytes = (i : ℕ) → slice_index_or bytes i 0 < 256

-- bytes were read and digested, and the reading of them is x
pub record Tells {R A : Type 0} (remaining : R → Option (List ℕ)) (failed : R → ℕ)
    (sure : R → Option ℕ) (reading : Reading A) (old new : R) (before after : Sha256) (x : A)
    : Type 0 where
  pub piece : List ℕ
  pub digested : Hashes before after piece
  pub takes : TakesBytes remaining failed sure old new piece
  pub bytes : AreBytes piece
  pub is_told : (rest : List ℕ) → reading (piece ++ rest) ≡ Ok (x, length piece)

-- n bytes were read, digested, and put after those that were kept
pub record Grows {R : Type 0} (remaining : R → Option (List ℕ)) (failed : R → ℕ)
    (sure : R → Option ℕ) (n : ℕ) (old new : R) (before after : Sha256) (kept more : List ℕ)
    : Type 0 where
  pub bytes : List ℕ
  pub tells : Tells remaining failed sure (needs n) old new before after bytes
  pub grown : more ≡ kept ++ bytes

-- they were not: a call failed that was not sure, memory was refused, or the bytes are refused
pub record Fails {R A : Type 0} (remaining : R → Option (List ℕ)) (failed : R → ℕ)
    (sure : R → Option ℕ) (reading : Reading A) (old new : R) (e : StoredError) : Type 0 where
  pub rises : IsRead e → RisesByOne (failed old) (failed new)
  pub counted : (IsRead e → ⊥) → failed new ≡ failed old
  pub unsure : sure old ≡ None → IsRead e → ⊥
  pub due : (bytes : List ℕ) → remaining old ≡ Some bytes → IsOfBytes e → reading bytes ≡ Err e

-- the bytes begin with a header that passes its checks
pub record HasHead (bytes : List ℕ) : Type 0 where
  pub header : StoredHeader
  pub passes : head_reading bytes ≡ Ok (header, HEADER_LEN)

-- if it is Ok, or memory was refused, this is so
abbrev pub OnOkOrMemory : {A : Type 0} → Result A StoredError → Type 0 → Type 0
OnOkOrMemory (Ok x) has = has
OnOkOrMemory (Err e) has = e ≡ errors.Memory → has

-- it is Ok and has this, unless memory was refused or a read failed
abbrev pub IfOkButWant : {A : Type 0} → Result A StoredError → (A → Type 0) → Type 0
IfOkButWant (Ok x) has = has x
IfOkButWant (Err e) has = (e ≡ errors.Memory) ⊎ (e ≡ errors.Read)
