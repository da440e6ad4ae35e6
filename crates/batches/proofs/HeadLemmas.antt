-- The fixed fields, both ways.
use Rattle.std.proofs.Common.{◌≡◌, ℕ, ◌+◌, ◌^◌, ◌<◌, ◌≤◌, List, [], ◌∷◌, ◌++◌, length, get_or, take, drop, refl, sym, ap, ◌∙◌, append_assoc, arith, inl, inr}
use Rattle.std.specs.Int.{w16, w32, from_be_bytes, to_be_bytes}
use Rattle.std.proofs.lemmas.Bool.{cases_lt}
use Rattle.std.proofs.lemmas.List.{take_all, take_at, drop_at, drop_more, take-append-drop, length-append, length-take, length-drop, get_or-drop, get_or-take, get_or_past, drop-drop}
use Rattle.std.proofs.lemmas.Nat.{be_bytes_2, be_bytes_4, from_be_bytes-to_be_bytes_2, from_be_bytes-to_be_bytes_4}
use Rattle.batches.specs.declared.header.Header.{Header}
use Rattle.batches.specs.Kept.{field}
use Rattle.batches.specs.Reading.{head_at, head_bytes}

abbrev pub IsBytes : List ℕ → Type 0
IsBytes bytes = (i : ℕ) → get_or bytes i 0 < 256

pub IsBytes-drop : (n : ℕ) (bytes : List ℕ) → IsBytes bytes → IsBytes (drop n bytes)
IsBytes-drop n bytes h i = rw get_or-drop (h (n + i))

pub IsBytes-take : (n : ℕ) (bytes : List ℕ) → IsBytes bytes → IsBytes (take n bytes)
IsBytes-take n bytes h i =
    elim (cases_lt i n) [
      | inl lt ↦ rw (get_or-take n bytes i 0 lt) (h i)
      | inr le ↦ rw (get_or_past (take n bytes) i 0 (omega (arith, length-take n bytes))) (omega arith)
    ]

-- what stands from a place on: n bytes and the rest
pub split : (at n : ℕ) (bytes : List ℕ) → drop at bytes ≡ take n (drop at bytes) ++ drop (at + n) bytes
split at n bytes = sym (take-append-drop n (drop at bytes)) ∙ ap (λ (t : List ℕ). take n (drop at bytes) ++ t) (drop-drop n at bytes)

pub field_4 : (at : ℕ) (bytes : List ℕ) → at + 4 ≤ length bytes → IsBytes bytes → to_be_bytes w32 (field w32 at bytes) ≡ take 4 (drop at bytes)
field_4 at bytes long fits = be_bytes_4 (take 4 (drop at bytes)) _ (omega (arith, length-take 4 (drop at bytes), length-drop at bytes)) (IsBytes-take 4 (drop at bytes) (IsBytes-drop at bytes fits)) refl

pub field_2 : (at : ℕ) (bytes : List ℕ) → at + 2 ≤ length bytes → IsBytes bytes → to_be_bytes w16 (field w16 at bytes) ≡ take 2 (drop at bytes)
field_2 at bytes long fits = be_bytes_2 (take 2 (drop at bytes)) _ (omega (arith, length-take 2 (drop at bytes), length-drop at bytes)) (IsBytes-take 2 (drop at bytes) (IsBytes-drop at bytes fits)) refl

-- a field and what follows it
pub four : (at : ℕ) (bytes : List ℕ) → at + 4 ≤ length bytes → IsBytes bytes → drop at bytes ≡ to_be_bytes w32 (field w32 at bytes) ++ drop (at + 4) bytes
four at bytes long fits = split at 4 bytes ∙ ap (λ (t : List ℕ). t ++ drop (at + 4) bytes) (sym (field_4 at bytes long fits))

pub two : (at : ℕ) (bytes : List ℕ) → at + 2 ≤ length bytes → IsBytes bytes → drop at bytes ≡ to_be_bytes w16 (field w16 at bytes) ++ drop (at + 2) bytes
two at bytes long fits = split at 2 bytes ∙ ap (λ (t : List ℕ). t ++ drop (at + 2) bytes) (sym (field_2 at bytes long fits))

-- the fixed fields as bytes, one field after another, and what follows them
abbrev head_then : Header → List ℕ → List ℕ
head_then h rest =
    to_be_bytes w32 h.magic ++ (h.version ∷ h.log2m ∷ (to_be_bytes w32 h.name.superstep ++ (to_be_bytes w16 h.name.source ++ (to_be_bytes w16 h.name.target
    ++ (h.job ++ (to_be_bytes w32 h.changed ++ (to_be_bytes w32 h.count ++ rest)))))))

head_bytes-then : (h : Header) (rest : List ℕ) → head_bytes h ++ rest ≡ head_then h rest
unfolding head_bytes
head_bytes-then h rest = simp append_assoc refl

-- what is read is spelled so
pub head_takes : (bytes : List ℕ) → 54 ≤ length bytes → IsBytes bytes → bytes ≡ head_bytes (head_at bytes) ++ drop 54 bytes
unfolding head_at
head_takes bytes long fits =
    let h = head_at bytes in
    let rest = drop 54 bytes in
    let e1 = four 50 bytes (omega arith) fits in
    let e2 = four 46 bytes (omega arith) fits ∙ ap (λ (t : List ℕ). to_be_bytes w32 (field w32 46 bytes) ++ t) e1 in
    let e3 = split 14 32 bytes ∙ ap (λ (t : List ℕ). take 32 (drop 14 bytes) ++ t) e2 in
    let e4 = two 12 bytes (omega arith) fits ∙ ap (λ (t : List ℕ). to_be_bytes w16 (field w16 12 bytes) ++ t) e3 in
    let e5 = two 10 bytes (omega arith) fits ∙ ap (λ (t : List ℕ). to_be_bytes w16 (field w16 10 bytes) ++ t) e4 in
    let e6 = four 6 bytes (omega arith) fits ∙ ap (λ (t : List ℕ). to_be_bytes w32 (field w32 6 bytes) ++ t) e5 in
    let e7 = drop_more bytes 5 0 (omega arith) ∙ ap (λ (t : List ℕ). get_or bytes 5 0 ∷ t) e6 in
    let e8 = drop_more bytes 4 0 (omega arith) ∙ ap (λ (t : List ℕ). get_or bytes 4 0 ∷ t) e7 in
    let e9 : bytes ≡ head_then h rest = four 0 bytes (omega arith) fits ∙ ap (λ (t : List ℕ). to_be_bytes w32 (field w32 0 bytes) ++ t) e8 in
    e9 ∙ sym (head_bytes-then h rest)

-- fields that have a spelling
pub record Fits (h : Header) : Type 0 where
  pub magic : h.magic < 2 ^ 32
  pub superstep : h.name.superstep < 2 ^ 32
  pub source : h.name.source < 2 ^ 16
  pub target : h.name.target < 2 ^ 16
  pub job : length h.job ≡ 32
  pub changed : h.changed < 2 ^ 32
  pub count : h.count < 2 ^ 32

congr : (f : ℕ → ℕ → ℕ → ℕ → ℕ → ℕ → List ℕ → ℕ → ℕ → Header) (a0 b0 a1 b1 a2 b2 a3 b3 a4 b4 a5 b5 : ℕ) (a6 b6 : List ℕ) (a7 b7 a8 b8 : ℕ)
    → a0 ≡ b0 → a1 ≡ b1 → a2 ≡ b2 → a3 ≡ b3 → a4 ≡ b4 → a5 ≡ b5 → a6 ≡ b6 → a7 ≡ b7 → a8 ≡ b8 → f a0 a1 a2 a3 a4 a5 a6 a7 a8 ≡ f b0 b1 b2 b3 b4 b5 b6 b7 b8
congr f a0 b0 a1 b1 a2 b2 a3 b3 a4 b4 a5 b5 a6 b6 a7 b7 a8 b8 e0 e1 e2 e3 e4 e5 e6 e7 e8 = cc

-- fixed fields are the same where each field is
pub same_head : (a b : Header) → a.magic ≡ b.magic → a.version ≡ b.version → a.log2m ≡ b.log2m → a.name.superstep ≡ b.name.superstep → a.name.source ≡ b.name.source → a.name.target ≡ b.name.target → a.job ≡ b.job → a.changed ≡ b.changed → a.count ≡ b.count → a ≡ b
same_head a b e0 e1 e2 e3 e4 e5 e6 e7 e8 =
    congr (λ x0 x1 x2 x3 x4 x5 x6 x7 x8. record { magic = x0; version = x1; log2m = x2; name = record { superstep = x3; source = x4; target = x5 }; job = x6; changed = x7; count = x8 })
    a.magic b.magic a.version b.version a.log2m b.log2m a.name.superstep b.name.superstep a.name.source b.name.source a.name.target b.name.target a.job b.job a.changed b.changed a.count b.count e0 e1 e2 e3 e4 e5 e6 e7 e8

-- what is spelled so is read
pub head_again : (h : Header) (rest : List ℕ) → Fits h → head_at (head_bytes h ++ rest) ≡ h
unfolding head_at
head_again h rest fits = rw (head_bytes-then h rest) (
    let tail = to_be_bytes w32 h.changed ++ (to_be_bytes w32 h.count ++ rest) in
    let far = head_then h rest in
    let from46 : drop 46 far ≡ tail = drop_at h.job tail 32 fits.job in
    let from50 : drop 50 far ≡ to_be_bytes w32 h.count ++ rest = sym (drop-drop 4 46 far) ∙ ap (drop 4) from46 in
    same_head (head_at far) h
    (from_be_bytes-to_be_bytes_4 h.magic fits.magic) refl refl (from_be_bytes-to_be_bytes_4 h.name.superstep fits.superstep)
    (from_be_bytes-to_be_bytes_2 h.name.source fits.source) (from_be_bytes-to_be_bytes_2 h.name.target fits.target)
    (take_at h.job tail 32 fits.job)
    (ap (λ (t : List ℕ). from_be_bytes w32 (take 4 t)) from46 ∙ from_be_bytes-to_be_bytes_4 h.changed fits.changed)
    (ap (λ (t : List ℕ). from_be_bytes w32 (take 4 t)) from50 ∙ from_be_bytes-to_be_bytes_4 h.count fits.count))

-- the fixed fields are 54 bytes
pub head_len : (h : Header) → length h.job ≡ 32 → length (head_bytes h) ≡ 54
head_len h job =
    let tail = to_be_bytes w32 h.changed ++ (to_be_bytes w32 h.count ++ []) in
    let flat : length (head_bytes h ++ []) ≡ length (head_then h []) = ap length (head_bytes-then h []) in
    let long : length (head_then h []) ≡ 14 + length (h.job ++ tail) = omega arith in
    let ends : length tail ≡ 8 = omega arith in
    omega (arith, flat, long, ends, length-append (head_bytes h) [], length-append h.job tail, job)

pub head_after : (h : Header) (rest : List ℕ) → length h.job ≡ 32 → drop 54 (head_bytes h ++ rest) ≡ rest
head_after h rest job = drop_at (head_bytes h) rest 54 (head_len h job)

-- the digest has 32 bytes
pub job_len : (bytes : List ℕ) → 54 ≤ length bytes → length (head_at bytes).job ≡ 32
unfolding head_at
job_len bytes long = omega (arith, length-take 32 (drop 14 bytes), length-drop 14 bytes)

-- the fields set one behind another
pub fields_are : (h : Header) (b1 b2 b3 b4 b5 b6 b7 b8 : List ℕ) → take 4 b1 ≡ to_be_bytes w32 h.magic
    → take 6 b2 ≡ take 4 b1 ++ h.version ∷ h.log2m ∷ [] → take 10 b3 ≡ take 6 b2 ++ to_be_bytes w32 h.name.superstep
    → take 12 b4 ≡ take 10 b3 ++ to_be_bytes w16 h.name.source → take 14 b5 ≡ take 12 b4 ++ to_be_bytes w16 h.name.target
    → take 46 b6 ≡ take 14 b5 ++ h.job → take 50 b7 ≡ take 46 b6 ++ to_be_bytes w32 h.changed
    → take 54 b8 ≡ take 50 b7 ++ to_be_bytes w32 h.count → length b8 ≡ 54 → b8 ≡ head_bytes h
unfolding head_bytes
fields_are h b1 b2 b3 b4 b5 b6 b7 b8 e1 e2 e3 e4 e5 e6 e7 e8 long =
    sym (take_all 54 b8 (omega (arith, long))) ∙ rw (e8, e7, e6, e5, e4, e3, e2, e1) (simp append_assoc refl)
