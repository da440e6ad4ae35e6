-- The spelling of a replica is of its form: no check of its bytes fails.
use Rattle.std.proofs.Common.{◌≡◌, ℕ, zero, suc, ◌+◌, ◌-◌, ◌*◌, ◌/◌, ◌%◌, ◌^◌, ◌<◌, ◌≤◌, true, List, [], ◌∷◌, ◌++◌, length, get_or, take, drop, Result, Ok, Err, refl, ap, sym, ◌∙◌, subst, arith, append_assoc, append-nil, inl, inr}
use Rattle.std.specs.Prelude.{Option, Some, None, ⊤, ◌⊎◌}
use Rattle.std.specs.List.{All, flat_map}
use Rattle.std.specs.Int.{w16, w32, w64, to_be_bytes, from_be_bytes}
use Rattle.std.proofs.Math.Nat.{mul-mod_left, mul-div_cancel, div-mul-le_self, le-div_iff_mul-le}
use Rattle.std.proofs.lemmas.Bool.{le-ltb, le-leb, eq-eqb}
use Rattle.std.proofs.lemmas.List.{length-append, take_all}
use Rattle.std.proofs.lemmas.Nat.{from_be_bytes-to_be_bytes_2, from_be_bytes-to_be_bytes_4, from_be_bytes-to_be_bytes_8}
use Rattle.sha2.specs.Sha256.{sha256}
use Rattle.sha2.proofs.Facts256.{length-sha256}
use Rattle.graph.proofs.LabelLemmas.{text_same}
use Rattle.ball_model.specs.Batches.{BatchValue, batch_bytes}
use Rattle.ball_model.specs.Checkpoint.{front_bytes, table_bytes, held_bytes, early_bytes, kept_batches, checkpoint_bytes, first_checkpoint_bytes}
use Rattle.ball_model.specs.Job.{PartValue}
use Rattle.ball_model.specs.PlanValue.{PlanValue, part_size}
use Rattle.ball_model.specs.State.{State}
use Rattle.ball_model.proofs.PartLemmas.{part_size-is}
use Rattle.batches.proofs.WholeLemmas.{batch_length}
use Rattle.replica.specs.Kept.{AreEarly}
use Rattle.replica.specs.Seen.{IsState}
use Rattle.replica.proofs.KeptLemmas.Kept.{three_levels}
use Rattle.replica.proofs.SeenLemmas.Read.{few}
use Rattle.checkpoint.specs.declared.error.KeepError.{KeepError}
use Rattle.checkpoint.specs.Parts.{heard_bytes, count_bytes}
use Rattle.ball_model.specs.Checks.{◌>>=◌}
use Rattle.checkpoint.specs.Reading.{Form, needs, followed, is_batch_length, told_batch, batch_form, batches_form, told_batches, early_form, fixed_length, held_form, body_form, told_body, content_form, sealed_form, seal_form, checkpoint_head_at, check_checkpoint_head}
use Rattle.checkpoint.specs.Told.{IsOfPlan}
use Rattle.checkpoint.proofs.FrontLemmas.{head_of}
use Rattle.checkpoint.proofs.LawLemmas.{early_are}
use Rattle.checkpoint.proofs.LengthLemmas.{front_long, table_long, heard_long, accumulated_long, batch_few}
use Rattle.checkpoint.proofs.ReaderLemmas.{needs-piece, followed-at, told-needs, number-told, held-none, held-some, told-body, seal-fine}
use Rattle.checkpoint.proofs.TextLemmas.{held_is}
use Rattle.replica.proofs.AheadLemmas.{batches_in, few_batches}

-- the form takes all of the piece, whatever follows it
abbrev pub Covers : Form → List ℕ → Type 0
Covers form piece = (rest : List ℕ) → form (piece ++ rest) ≡ Ok (length piece)

covers_then : (first : Form) (second : List ℕ → Form) (one two : List ℕ) → Covers first one → Covers (second one) two → Covers (followed first second) (one ++ two)
covers_then first second one two p q rest =
    ap (followed first second) (append_assoc one two rest) ∙ followed-at first second one (two ++ rest) (p (two ++ rest))
    ∙ ap (λ (r : Result ℕ KeepError). r >>= λ k. Ok (length one + k)) (q rest) ∙ ap Ok (sym (length-append one two))

covers_as : (form other : Form) (piece : List ℕ) → ((bytes : List ℕ) → other bytes ≡ form bytes) → Covers form piece → Covers other piece
covers_as form other piece same p rest = same (piece ++ rest) ∙ p rest

covers_needs : (n : ℕ) (piece : List ℕ) → length piece ≡ n → Covers (needs n) piece
covers_needs n piece long rest = needs-piece n piece rest long

-- ---- batches
-- no partition has more vertices than the first
pub first_greatest : (n parts p : ℕ) → p < parts → part_size n parts p ≤ part_size n parts 0
first_greatest n parts p lt =
    let some : 0 < parts = omega arith in
    let a = part_size-is n parts p lt in
    let b = part_size-is n parts 0 some in
    let fits : (n + (parts - 1 - p)) / parts * parts ≤ n + (parts - 1 - 0) = omega (arith, div-mul-le_self (n + (parts - 1 - p)) parts) in
    let le : (n + (parts - 1 - p)) / parts ≤ (n + (parts - 1 - 0)) / parts = (le-div_iff_mul-le {k = parts} {x = (n + (parts - 1 - p)) / parts} {y = n + (parts - 1 - 0)} some).1 fits in
    omega (arith, a, b, le)

batch_long : (plan : PlanValue) (rows n : ℕ) → n ≡ 54 + rows * (4 + 2 ^ plan.log2m) → rows ≤ part_size plan.vertices plan.parts 0 → is_batch_length plan n ≡ true
unfolding is_batch_length
batch_long plan rows n is le =
    let w = 4 + 2 ^ plan.log2m in
    let rest : n - 54 ≡ rows * w = omega (arith, is) in
    let even : (n - 54) % w ≡ 0 = ap (λ (k : ℕ). k % w) rest ∙ mul-mod_left rows w in
    let count : (n - 54) / w ≡ rows = ap (λ (k : ℕ). k / w) rest ∙ mul-div_cancel rows (omega arith) in
    rw (le-leb 54 n (omega (arith, is)), eq-eqb ((n - 54) % w) 0 even, le-leb ((n - 54) / w) (part_size plan.vertices plan.parts 0) (omega (arith, count, le))) refl

covers_batch : (plan : PlanValue) (b : BatchValue) → IsOfPlan plan b → Covers (batch_form plan) (early_bytes b)
covers_batch plan b is =
    let bytes = batch_bytes b in
    let n = length bytes in
    let width : 2 ^ b.plan.log2m ≡ 2 ^ plan.log2m = ap (λ (p : PlanValue). 2 ^ p.log2m) is.plan_is in
    let size : part_size b.plan.vertices b.plan.parts 0 ≡ part_size plan.vertices plan.parts 0 = ap (λ (p : PlanValue). part_size p.vertices p.parts 0) is.plan_is in
    let long = batch_length b is.batch in
    let few = first_greatest b.plan.vertices b.plan.parts b.name.source is.batch.source in
    let length_is : n ≡ 54 + length b.rows * (4 + 2 ^ plan.log2m) = long ∙ ap (λ (k : ℕ). 54 + length b.rows * (4 + k)) width in
    let right : is_batch_length plan n ≡ true = batch_long plan (length b.rows) n length_is (omega (arith, few, size, is.batch.count, is.batch.changed)) in
    let number : from_be_bytes w64 (to_be_bytes w64 n) ≡ n = from_be_bytes-to_be_bytes_8 n (omega (arith, long, batch_few b is.batch)) in
    covers_then (needs 8) (told_batch plan) (to_be_bytes w64 n) bytes (covers_needs 8 (to_be_bytes w64 n) refl)
    (covers_as (needs n) (told_batch plan (to_be_bytes w64 n)) bytes (λ rest. told-needs plan (to_be_bytes w64 n) rest n number right) (covers_needs n bytes refl))

covers_batches : (plan : PlanValue) (batches : List BatchValue) → All (IsOfPlan plan) batches → Covers (batches_form plan (length batches)) (flat_map early_bytes batches)
unfolding batches_form
covers_batches plan [] all rest = refl
covers_batches plan (b ∷ batches) all rest =
    covers_then (batch_form plan) (λ _. batches_form plan (length batches)) (early_bytes b) (flat_map early_bytes batches)
    (covers_batch plan b (all 0 b (omega arith))) (covers_batches plan batches (λ k d lt. all (suc k) d (omega (arith, lt)))) rest

-- a place is free
slots_fewer : (slots : List (Option BatchValue)) (p : ℕ) → p < length slots → get_or slots p None ≡ None → length (batches_in slots) + 1 ≤ length slots
unfolding batches_in
slots_fewer [] p lt free = absurd (omega (arith, lt))
slots_fewer (None ∷ rest) p lt free = omega (arith, few_batches rest)
slots_fewer (Some b ∷ rest) zero lt free = absurd (subst is_there free tt)
  where
    is_there : Option BatchValue → Type 0
    is_there None = ⊥
    is_there (Some b) = ⊤
slots_fewer (Some b ∷ rest) (suc p) lt free = omega (arith, slots_fewer rest p (omega (arith, lt)) free)

pub early_fewer : (plan : PlanValue) (p t : ℕ) (early : List (List (Option BatchValue))) → AreEarly plan p t early → p < plan.parts → length (kept_batches early) ≤ 3 * (plan.parts - 1)
early_fewer plan p t early are lt =
    let level : (i : ℕ) → i < 3 → length (batches_in (get_or early i [])) + 1 ≤ plan.parts = λ i below.
    omega (arith, slots_fewer (get_or early i []) p (omega (arith, lt, are.table.sources i below)) (are.own i), are.table.sources i below) in
    let split : length (kept_batches early) ≡ length (batches_in (get_or early 0 []) ++ (batches_in (get_or early 1 []) ++ batches_in (get_or early 2 []))) =
    ap (λ (l : List BatchValue). length l) (three_levels early are.table.levels) in
    omega (
      arith,
      split,
      length-append (batches_in (get_or early 0 [])) (batches_in (get_or early 1 []) ++ batches_in (get_or early 2 [])),
      length-append (batches_in (get_or early 1 [])) (batches_in (get_or early 2 [])),
      level 0 (omega arith),
      level 1 (omega arith),
      level 2 (omega arith),
    )

covers_early : (v : State) → IsState v → Covers (early_form v.part.plan) (count_bytes v ++ flat_map early_bytes (kept_batches v.early))
unfolding count_bytes
covers_early v s =
    let plan = v.part.plan in
    let batches = kept_batches v.early in
    let n = length batches in
    let few = early_fewer plan v.part.number v.superstep v.early s.early s.part.number in
    let number : from_be_bytes w16 (to_be_bytes w16 n) ≡ n = from_be_bytes-to_be_bytes_2 n (omega (arith, few, s.part.plan.parts_to)) in
    covers_then (needs 2) (told_batches plan) (to_be_bytes w16 n) (flat_map early_bytes batches) (covers_needs 2 (to_be_bytes w16 n) refl)
    (covers_as (batches_form plan n) (told_batches plan (to_be_bytes w16 n)) (flat_map early_bytes batches) (λ rest. number-told plan (to_be_bytes w16 n) rest n number few) (covers_batches plan batches (early_are v s)))

-- ---- the fixed fields
job_at : (version : ℕ) (v : State) → length v.part.plan.job ≡ 32 → take 32 (drop 22 (front_bytes version v)) ≡ v.part.plan.job
unfolding front_bytes
job_at version v long = take_all 32 v.part.plan.job (omega (arith, long))

pub head_is_in : (version : ℕ) (v : State) → IsState v → checkpoint_head_at (front_bytes version v) ≡ head_of version v
unfolding checkpoint_head_at front_bytes
head_is_in version v s =
    let plan = v.part.plan in
    let small = few v s in
    let parts : from_be_bytes w16 (to_be_bytes w16 plan.parts) ≡ plan.parts = from_be_bytes-to_be_bytes_2 plan.parts (omega (arith, s.part.plan.parts_to)) in
    let number : from_be_bytes w16 (to_be_bytes w16 v.part.number) ≡ v.part.number = from_be_bytes-to_be_bytes_2 v.part.number (omega (arith, s.part.plan.parts_to, s.part.number)) in
    let vertices : from_be_bytes w32 (to_be_bytes w32 plan.vertices) ≡ plan.vertices = from_be_bytes-to_be_bytes_4 plan.vertices (omega (arith, s.part.plan.vertices_to)) in
    let size : from_be_bytes w32 (to_be_bytes w32 (length v.part.preds)) ≡ length v.part.preds = from_be_bytes-to_be_bytes_4 (length v.part.preds) (omega (arith, small)) in
    let step : from_be_bytes w32 (to_be_bytes w32 v.superstep) ≡ v.superstep = from_be_bytes-to_be_bytes_4 v.superstep (omega (arith, s.superstep, s.part.plan.limit_to)) in
    let job : take 32 plan.job ≡ plan.job = take_all 32 plan.job (omega (arith, s.part.plan.digest)) in
    λ i. record {
      magic = 0x4842434b;
      version = version;
      log2m = plan.log2m;
      parts = parts i;
      partition = number i;
      vertices = vertices i;
      size = size i;
      superstep = step i;
      job = job i;
    }

pub head_passes : (version : ℕ) (v : State) → IsState v → ((version ≡ 1) ⊎ (version ≡ 2)) → check_checkpoint_head v.part (head_of version v) ≡ Ok tt
unfolding check_checkpoint_head
head_passes version v s known =
    let plan = v.part.plan in
    rw (text_same plan.job, eq-eqb v.part.number v.part.number refl, eq-eqb plan.log2m plan.log2m refl, eq-eqb plan.parts plan.parts refl, eq-eqb plan.vertices plan.vertices refl, eq-eqb (length v.part.preds) (length v.part.preds) refl, le-ltb plan.limit v.superstep s.superstep)
    (elim known [
      | inl one ↦ rw one refl
      | inr two ↦ rw two refl
    ])

-- ---- the whole
covers_body : (version : ℕ) (v : State) (fixed held : List ℕ) → IsState v → ((version ≡ 1) ⊎ (version ≡ 2)) → length fixed ≡ fixed_length v.part (head_of version v) → Covers (held_form v.part.plan version) held
    → Covers (content_form v.part) (front_bytes version v ++ (fixed ++ held))
covers_body version v fixed held s known long rest_is =
    let part = v.part in
    let h = head_of version v in
    let front = front_bytes version v in
    covers_then (needs 54) (told_body part) front (fixed ++ held) (covers_needs 54 front (front_long version v s))
    (covers_as (body_form part h) (told_body part front) (fixed ++ held) (λ bytes. told-body part front bytes h (head_is_in version v s) (head_passes version v s known))
    (covers_then (needs (fixed_length part h)) (λ _. held_form part.plan version) fixed held (covers_needs (fixed_length part h) fixed long) rest_is))

sealed_fine : (part : PartValue) (content : List ℕ) → Covers (content_form part) content → sealed_form part (content ++ sha256 content) ≡ Ok (length content + 32)
sealed_fine part content covers =
    followed-at (content_form part) seal_form content (sha256 content) (covers (sha256 content))
    ∙ ap (λ (r : Result ℕ KeepError). r >>= λ k. Ok (length content + k)) (seal-fine content (sha256 content) (length-sha256 content) refl)

-- what is written in version 2
pub second_content : (v : State) → IsState v → Covers (content_form v.part) ((front_bytes 2 v ++ table_bytes v) ++ held_bytes v)
second_content v s =
    let acc : List ℕ = flat_map (λ row. row) v.accumulated in
    let early : List ℕ = flat_map early_bytes (kept_batches v.early) in
    let fixed : List ℕ = table_bytes v ++ (heard_bytes v ++ acc) in
    let rest : List ℕ = count_bytes v ++ early in
    let turned : held_bytes v ≡ (heard_bytes v ++ acc) ++ rest = sym (held_is v) ∙ append_assoc (heard_bytes v ++ acc) (count_bytes v) early in
    let whole : ((front_bytes 2 v ++ table_bytes v) ++ held_bytes v) ≡ front_bytes 2 v ++ (fixed ++ rest) =
    append_assoc (front_bytes 2 v) (table_bytes v) (held_bytes v)
    ∙ ap (λ (l : List ℕ). front_bytes 2 v ++ l) (ap (λ (l : List ℕ). table_bytes v ++ l) turned ∙ sym (append_assoc (table_bytes v) (heard_bytes v ++ acc) rest)) in
    let long : length fixed ≡ fixed_length v.part (head_of 2 v) =
    omega (arith, length-append (table_bytes v) (heard_bytes v ++ acc), length-append (heard_bytes v) acc, table_long v s, heard_long v, accumulated_long v s, s.sums.count) in
    subst (λ (l : List ℕ). Covers (content_form v.part) l) (sym whole)
    (covers_body 2 v fixed rest s (inr refl) long (covers_as (early_form v.part.plan) (held_form v.part.plan 2) rest (λ bytes. held-some v.part.plan 2 bytes refl) (covers_early v s)))

-- and in version 1
pub first_content : (v : State) → IsState v → Covers (content_form v.part) (front_bytes 1 v ++ table_bytes v)
first_content v s =
    let long : length (table_bytes v) ≡ fixed_length v.part (head_of 1 v) = omega (arith, table_long v s, s.sums.count) in
    subst (λ (l : List ℕ). Covers (content_form v.part) (front_bytes 1 v ++ l)) (append-nil (table_bytes v))
    (covers_body 1 v (table_bytes v) [] s (inl refl) long (λ bytes. held-none v.part.plan 1 bytes refl))

pub second_fine : (v : State) → IsState v → (e : KeepError) → sealed_form v.part (checkpoint_bytes v) ≡ Err e → ⊥
unfolding checkpoint_bytes
second_fine v s e refused =
    let fine = sealed_fine v.part ((front_bytes 2 v ++ table_bytes v) ++ held_bytes v) (second_content v s) in absurd (cc)

pub first_fine : (v : State) → IsState v → (e : KeepError) → sealed_form v.part (first_checkpoint_bytes v) ≡ Err e → ⊥
unfolding first_checkpoint_bytes
first_fine v s e refused =
    let fine = sealed_fine v.part (front_bytes 1 v ++ table_bytes v) (first_content v s) in absurd (cc)
