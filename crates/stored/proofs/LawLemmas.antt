-- The laws of stored graphs, and what a whole reading comes to.
use Rattle.std.proofs.Common.{◌≡◌, ℕ, ◌+◌, ◌≤◌, List, [], ◌++◌, length, take, drop, Result, Ok, Err, refl, ap, sym, ◌∙◌, arith, append_assoc, append-nil, length-append}
use Rattle.std.specs.Prelude.{◌⊎◌, not, nat_lt, Option, Some}
use Rattle.std.specs.Str.{bytes_eq}
use Rattle.std.proofs.Math.Seq.{drop-append_seam, take-add}
use Rattle.std.proofs.lemmas.Bool.{le-ltb, not-false}
use Rattle.std.proofs.lemmas.List.{take_all, take_at}
use Rattle.std.proofs.lemmas.Slice.Eq.{bytes_eq-Decides}
use Rattle.sha2.specs.Sha256.{sha256}
use Rattle.sha2.specs.declared.Sha256.{Sha256}
use Rattle.sha2.proofs.Facts256.{length-sha256}
use Rattle.ball_model.specs.Checks.{◌>>=◌}
use Rattle.ball_model.proofs.CheckLemmas.{bind_ok, guard_ok}
use Rattle.stored.specs.declared.error.StoredError.{StoredError}
use Rattle.stored.specs.declared.error.StoredError.TheVariants as errors
use Rattle.stored.specs.Laws.{MeaningIsOne, SpellingIsOne, StoredIsRead}
use Rattle.stored.specs.Reading.{content_reading, seal_reading, stored_reading, IsOfBytes, Tells}
use Rattle.stored.specs.Stored.{StoredValue, IsStorable, content_bytes, network_bytes}
use Rattle.stored.proofs.AgainLemmas.{content_again}
use Rattle.stored.proofs.PartsLemmas.{ok_same}
use Rattle.stored.proofs.ReadLemmas.{left}
use Rattle.stored.proofs.ReadWholeLemmas.{is_want, stored-at}
use Rattle.stored.proofs.SpellingLemmas.{content_spelled}

-- ---- the digest
seal-ok : (content digest rest : List ℕ) → digest ≡ sha256 content → seal_reading content (digest ++ rest) ≡ Ok (tt, 32)
unfolding seal_reading
seal-ok content digest rest is =
    let long : length digest ≡ 32 = ap length is ∙ length-sha256 content in
    let many : 32 ≤ length (digest ++ rest) = omega (arith, long, length-append digest rest) in
    rw (le-ltb (length (digest ++ rest)) 32 many, take_at digest rest 32 long, (bytes_eq-Decides digest (sha256 content)).1 is) refl

record IsSealed (content bytes : List ℕ) (n : ℕ) : Type 0 where
  size : n ≡ 32
  is : take 32 bytes ≡ sha256 content

seal_passed : (content bytes : List ℕ) (s : Unit {0} × ℕ) → seal_reading content bytes ≡ Ok s → IsSealed content bytes s.1
unfolding seal_reading
seal_passed content bytes s is =
    let a = guard_ok (nat_lt (length bytes) 32) errors.Short _ s is in
    let b = guard_ok (not (bytes_eq (take 32 bytes) (sha256 content))) errors.Digest _ s a.1 in
    let e = ok_same {A = Unit {0}} tt s.0 32 s.1 b.1 in
    record { size = sym e.1; is = (bytes_eq-Decides (take 32 bytes) (sha256 content)).0 (not-false (bytes_eq (take 32 bytes) (sha256 content)) b.0) }

-- ---- the laws
pub stored_again : StoredIsRead
unfolding network_bytes
stored_again v more s =
    let content = content_bytes v in
    let digest = sha256 content in
    let size : length content + 32 ≡ length (content ++ digest) = omega (arith, length-append content digest, length-sha256 content) in
    ap stored_reading (append_assoc content digest more) ∙ stored-at content (digest ++ more) v (content_again v s (digest ++ more)) ∙ rw (seal-ok content digest more refl, size) refl

abbrev plus_seal : StoredValue × ℕ → Unit {0} × ℕ → Result (StoredValue × ℕ) StoredError
plus_seal content seal = Ok (content.0, content.1 + seal.1)

abbrev then_seal : List ℕ → StoredValue × ℕ → Result (StoredValue × ℕ) StoredError
then_seal bytes content = seal_reading (take content.1 bytes) (drop content.1 bytes) >>= plus_seal content

abbrev value_at : StoredValue → ℕ → Result (StoredValue × ℕ) StoredError
value_at v n = Ok (v, n)

pub one_spelling : SpellingIsOne
unfolding stored_reading network_bytes
one_spelling bytes v n small is =
    let a = bind_ok (content_reading bytes) (then_seal bytes) (v, n) is in
    let k = a.0.1 in
    let b = bind_ok (seal_reading (take k bytes) (drop k bytes)) (plus_seal a.0) (v, n) a.2 in
    let e = ok_same a.0.0 v (k + b.0.1) n b.2 in
    let p = content_spelled bytes v k small (a.1 ∙ ap (λ (w : StoredValue). value_at w k) e.0) in
    let q = seal_passed (take k bytes) (drop k bytes) b.0 b.1 in
    let size : n ≡ k + 32 = omega (arith, e.1, q.size) in
    (p.storable, ap (λ (l : ℕ). take l bytes) size ∙ take-add k 32 bytes ∙ ap (λ (l : List ℕ). take k bytes ++ l) q.is ∙ ap (λ (l : List ℕ). l ++ sha256 l) p.spelled)

pub one_meaning : MeaningIsOne
one_meaning v w more others s t e =
    let n = length (network_bytes v) in
    let m = length (network_bytes w) in
    let same = ok_same v w n m (sym (stored_again v more s) ∙ ap stored_reading e ∙ stored_again w others t) in
    (same.0, sym (drop-append_seam (network_bytes v) more) ∙ ap (drop n) e ∙ ap (λ (k : ℕ). drop k (network_bytes w ++ others)) same.1 ∙ drop-append_seam (network_bytes w) others)

-- ---- a whole reading
-- the bytes of a network are not refused
pub is_wanting : (v : StoredValue) (more : List ℕ) (e : StoredError) → IsStorable v → (IsOfBytes e → stored_reading (network_bytes v ++ more) ≡ Err e) → (e ≡ errors.Memory) ⊎ (e ≡ errors.Read)
is_wanting v more e s due = is_want e (λ of. let good = stored_again v more s in let bad = due of in absurd (cc))

-- what was read is a network
pub is_network : {R : Type 0} {remaining : R → Option (List ℕ)} {failed : R → ℕ} {sure : R → Option ℕ} {a b : R} {t u : Sha256} (g : StoredValue) (p : Tells remaining failed sure content_reading a b t u g) → IsStorable g × (p.piece ≡ content_bytes g)
is_network g p =
    let piece = p.piece in
    let q = content_spelled piece g (length piece) p.bytes (ap content_reading (sym (append-nil piece)) ∙ p.is_told []) in
    (q.storable, sym (take_all (length piece) piece (omega arith)) ∙ q.spelled)

pub is_sealed : (g : StoredValue) (piece right : List ℕ) → piece ≡ content_bytes g → right ≡ sha256 piece → piece ++ right ≡ network_bytes g
unfolding network_bytes
is_sealed g piece right is digest = ap (λ (l : List ℕ). piece ++ l) digest ∙ ap (λ (l : List ℕ). l ++ sha256 l) is

pub is_found : {R : Type 0} {remaining : R → Option (List ℕ)} {failed : R → ℕ} {sure : R → Option ℕ} {a b : R} {t u : Sha256} (v g : StoredValue) (more : List ℕ) → IsStorable v → Tells remaining failed sure content_reading a b t u g → remaining a ≡ Some (network_bytes v ++ more) → g ≡ v
unfolding network_bytes
is_found {remaining} {a} {b} v g more s p known =
    let content = content_bytes v in
    let digest = sha256 content in
    let l = left (remaining a) (remaining b) p.piece ((content ++ digest) ++ more) p.takes.consumed known in
    let there : p.piece ++ l.rest ≡ content ++ (digest ++ more) = sym l.split ∙ append_assoc content digest more in
    (ok_same g v (length p.piece) (length content) (sym (p.is_told l.rest) ∙ ap content_reading there ∙ content_again v s (digest ++ more))).0
