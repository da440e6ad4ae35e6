-- The fixed fields and the digest that are read, as they are spelled.
use Rattle.std.proofs.Common.{◌≡◌, ℕ, ◌+◌, ◌<◌, ◌≤◌, List, [], ◌∷◌, ◌++◌, length, get_or, take, drop, Result, Ok, Err, refl, ap, sym, ◌∙◌, arith, append_assoc, inl, inr}
use Rattle.std.specs.Prelude.{Bool, true, false, not, ◌==◌, ◌&&◌, ◌⊎◌, IfErr}
use Rattle.std.specs.Int.{w16, w32, to_be_bytes}
use Rattle.std.specs.Str.{bytes_eq}
use Rattle.std.proofs.lemmas.Bool.{eqb-true, not-false}
use Rattle.std.proofs.lemmas.List.{drop_more, take_at, length-append}
use Rattle.ball_model.specs.Job.{PartValue}
use Rattle.ball_model.specs.State.{State}
use Rattle.ball_model.specs.Checkpoint.{front_bytes}
use Rattle.batches.specs.Kept.{field}
use Rattle.batches.proofs.HeadLemmas.{four, split, two}
use Rattle.checkpoint.specs.declared.header.CheckpointHeader.{CheckpointHeader}
use Rattle.checkpoint.specs.declared.error.KeepError.{KeepError}
use Rattle.checkpoint.specs.declared.error.KeepError.TheVariants as errors
use Rattle.ball_model.proofs.CheckLemmas.{equal_checked, guard_ok}
use Rattle.checkpoint.specs.Reading.{check_checkpoint_head, content_form, followed, checkpoint_head_at, needs, told_body}
use Rattle.checkpoint.proofs.ReaderLemmas.{followed-err, needs-err, needs-ok, same_bytes, told-bad}

-- ---- the fixed fields
-- the fixed fields as bytes, one field after another, and what follows them
abbrev head_then : CheckpointHeader → List ℕ → List ℕ
head_then h rest =
    to_be_bytes w32 h.magic ++ (h.version ∷ h.log2m ∷ (to_be_bytes w16 h.parts ++ (to_be_bytes w16 h.partition ++ (to_be_bytes w32 h.vertices
    ++ (to_be_bytes w32 h.size ++ (to_be_bytes w32 h.superstep ++ (h.job ++ rest)))))))

-- what is read is spelled so
pub head_is : (bytes : List ℕ) → 54 ≤ length bytes → ((i : ℕ) → get_or bytes i 0 < 256) → bytes ≡ head_then (checkpoint_head_at bytes) (drop 54 bytes)
unfolding checkpoint_head_at
head_is bytes long fits =
    let e1 = split 22 32 bytes in
    let e2 = four 18 bytes (omega arith) fits ∙ ap (λ (t : List ℕ). to_be_bytes w32 (field w32 18 bytes) ++ t) e1 in
    let e3 = four 14 bytes (omega arith) fits ∙ ap (λ (t : List ℕ). to_be_bytes w32 (field w32 14 bytes) ++ t) e2 in
    let e4 = four 10 bytes (omega arith) fits ∙ ap (λ (t : List ℕ). to_be_bytes w32 (field w32 10 bytes) ++ t) e3 in
    let e5 = two 8 bytes (omega arith) fits ∙ ap (λ (t : List ℕ). to_be_bytes w16 (field w16 8 bytes) ++ t) e4 in
    let e6 = two 6 bytes (omega arith) fits ∙ ap (λ (t : List ℕ). to_be_bytes w16 (field w16 6 bytes) ++ t) e5 in
    let e7 = drop_more bytes 5 0 (omega arith) ∙ ap (λ (t : List ℕ). get_or bytes 5 0 ∷ t) e6 in
    let e8 = drop_more bytes 4 0 (omega arith) ∙ ap (λ (t : List ℕ). get_or bytes 4 0 ∷ t) e7 in
    four 0 bytes (omega arith) fits ∙ ap (λ (t : List ℕ). to_be_bytes w32 (field w32 0 bytes) ++ t) e8

-- fixed fields of a part: what the checks say of them
record IsHead (part : PartValue) (h : CheckpointHeader) : Type 0 where
  magic : h.magic ≡ 0x4842434b
  job : h.job ≡ part.plan.job
  partition : h.partition ≡ part.number
  log2m : h.log2m ≡ part.plan.log2m
  parts : h.parts ≡ part.plan.parts
  vertices : h.vertices ≡ part.plan.vertices
  size : h.size ≡ length part.preds

head_passed : (part : PartValue) (h : CheckpointHeader) → check_checkpoint_head part h ≡ Ok tt → IsHead part h
unfolding check_checkpoint_head
head_passed part h e =
    let a = guard_ok _ errors.Magic _ tt e in
    let b = guard_ok _ errors.Version _ tt a.1 in
    let c = guard_ok _ errors.OtherJob _ tt b.1 in
    let d = guard_ok _ errors.OtherPart _ tt c.1 in
    let f = guard_ok _ errors.Shape _ tt d.1 in
    let g = guard_ok _ errors.Shape _ tt f.1 in
    let i = guard_ok _ errors.Shape _ tt g.1 in
    let j = guard_ok _ errors.Shape _ tt i.1 in
    record {
      magic = equal_checked h.magic 0x4842434b a.0;
      job = same_bytes h.job part.plan.job (not-false (bytes_eq h.job part.plan.job) c.0);
      partition = equal_checked h.partition part.number d.0;
      log2m = equal_checked h.log2m part.plan.log2m f.0;
      parts = equal_checked h.parts part.plan.parts g.0;
      vertices = equal_checked h.vertices part.plan.vertices i.0;
      size = equal_checked h.size (length part.preds) j.0;
    }

congr : (f : ℕ → ℕ → ℕ → ℕ → ℕ → ℕ → ℕ → ℕ → List ℕ → List ℕ) (a0 b0 a1 b1 a2 b2 a3 b3 a4 b4 a5 b5 a6 b6 a7 b7 : ℕ) (a8 b8 : List ℕ)
    → a0 ≡ b0 → a1 ≡ b1 → a2 ≡ b2 → a3 ≡ b3 → a4 ≡ b4 → a5 ≡ b5 → a6 ≡ b6 → a7 ≡ b7 → a8 ≡ b8 → f a0 a1 a2 a3 a4 a5 a6 a7 a8 ≡ f b0 b1 b2 b3 b4 b5 b6 b7 b8
congr f a0 b0 a1 b1 a2 b2 a3 b3 a4 b4 a5 b5 a6 b6 a7 b7 a8 b8 e0 e1 e2 e3 e4 e5 e6 e7 e8 = cc

-- the fixed fields of the replica in a version
abbrev pub head_of : ℕ → State → CheckpointHeader
head_of version v = record {
  magic = 0x4842434b;
  version = version;
  log2m = v.part.plan.log2m;
  parts = v.part.plan.parts;
  partition = v.part.number;
  vertices = v.part.plan.vertices;
  size = length v.part.preds;
  superstep = v.superstep;
  job = v.part.plan.job;
}

same_head : (n : ℕ) (v : State) (h : CheckpointHeader) (rest : List ℕ) → IsHead v.part h → h.version ≡ n → h.superstep ≡ v.superstep → head_then h rest ≡ head_then (head_of n v) rest
same_head n v h rest is version superstep =
    congr (λ x0 x1 x2 x3 x4 x5 x6 x7 x8. head_then (record { magic = x0; version = x1; log2m = x2; parts = x3; partition = x4; vertices = x5; size = x6; superstep = x7; job = x8 }) rest)
    h.magic 0x4842434b h.version n h.log2m v.part.plan.log2m h.parts v.part.plan.parts h.partition v.part.number h.vertices v.part.plan.vertices h.size (length v.part.preds) h.superstep v.superstep h.job v.part.plan.job
    is.magic version is.log2m is.parts is.partition is.vertices is.size superstep is.job

-- the front of the replica is that of its fixed fields
front_then : (n : ℕ) (v : State) (rest : List ℕ) → front_bytes n v ++ rest ≡ head_then (head_of n v) rest
unfolding front_bytes
front_then n v rest = simp append_assoc refl

-- the front has 54 bytes
front_len : (n : ℕ) (v : State) → length v.part.plan.job ≡ 32 → length (front_bytes n v) ≡ 54
front_len n v job =
    let flat : length (front_bytes n v ++ []) ≡ length (head_then (head_of n v) []) = ap length (front_then n v []) in
    let long : length (head_then (head_of n v) []) ≡ 22 + length (v.part.plan.job ++ []) = omega arith in
    omega (arith, flat, long, length-append (front_bytes n v) [], length-append v.part.plan.job [], job)

-- fixed fields that pass are those of a replica of the part
pub front_is : (n : ℕ) (v : State) (bytes : List ℕ) → ((i : ℕ) → get_or bytes i 0 < 256) → 54 ≤ length bytes → check_checkpoint_head v.part (checkpoint_head_at bytes) ≡ Ok tt
    → (checkpoint_head_at bytes).version ≡ n → (checkpoint_head_at bytes).superstep ≡ v.superstep → length v.part.plan.job ≡ 32 → take 54 bytes ≡ front_bytes n v
front_is n v bytes fits long passed version superstep job =
    let rest = drop 54 bytes in
    let whole : bytes ≡ front_bytes n v ++ rest =
    head_is bytes long fits ∙ same_head n v (checkpoint_head_at bytes) rest (head_passed v.part (checkpoint_head_at bytes) passed) version superstep ∙ sym (front_then n v rest) in
    ap (take 54) whole ∙ take_at (front_bytes n v) rest 54 (front_len n v job)

either : (a b : Bool) → (not a && not b) ≡ false → (a ≡ true) ⊎ (b ≡ true)
either true b e = inl refl
either false b e = inr (not-false b e)

-- fixed fields that pass are of one of the two versions
pub one_or_two : (part : PartValue) (h : CheckpointHeader) → check_checkpoint_head part h ≡ Ok tt → (h.version ≡ 1) ⊎ (h.version ≡ 2)
unfolding check_checkpoint_head
one_or_two part h e =
    let a = guard_ok _ errors.Magic _ tt e in
    let b = guard_ok _ errors.Version _ tt a.1 in
    elim (either (h.version == 1) (h.version == 2) b.0) [
      | inl one ↦ inl (eqb-true h.version 1 one)
      | inr two ↦ inr (eqb-true h.version 2 two)
    ]

-- ---- fixed fields that are refused
front_bad : (part : PartValue) (bytes : List ℕ) (e : KeepError) → 54 ≤ length bytes → check_checkpoint_head part (checkpoint_head_at (take 54 bytes)) ≡ Err e → content_form part bytes ≡ Err e
unfolding followed
front_bad part bytes e long is = rw (needs-ok 54 bytes long, told-bad part (take 54 bytes) (drop 54 bytes) e (sym is)) refl

pub front_short : (part : PartValue) (bytes : List ℕ) → length bytes < 54 → content_form part bytes ≡ Err errors.Short
front_short part bytes few = followed-err (needs 54) (told_body part) bytes errors.Short (needs-err 54 bytes few)

pub front_refused : (part : PartValue) (bytes : List ℕ) (r : Result (Unit {0}) KeepError) → 54 ≤ length bytes → r ≡ check_checkpoint_head part (checkpoint_head_at (take 54 bytes)) → IfErr r (λ e. content_form part bytes ≡ Err e)
front_refused part bytes (Ok u) long is = tt
front_refused part bytes (Err e) long is = front_bad part bytes e long (sym is)
