-- Bytes that are read part by part.
use Rattle.std.proofs.Common.{◌≡◌, ℕ, zero, suc, ◌+◌, ◌<◌, ◌≤◌, List, [], ◌∷◌, ◌++◌, length, take, Result, Ok, Err, refl, ap, sym, ◌∙◌, subst, arith, append_assoc, length-append, inl, inr}
use Rattle.std.specs.Prelude.{⊤, Bool, true, false, not, Option, Some, None, IfOk, IfErr}
use Rattle.std.specs.Io.KnownBytes.{Consumes, IsAtEnd}
use Rattle.std.proofs.KnownBytes.{Consumes-nil, Consumes-trans}
use Rattle.std.proofs.Math.Seq.{take-append_seam, drop-append_seam}
use Rattle.std.proofs.lemmas.Bool.{cases_lt, le-ltb, lt-ltb}
use Rattle.ball_model.specs.Checks.{◌>>=◌}
use Rattle.ball_model.specs.Streams.{AfterAtMost, AreSure, EndsAfter, RisesByOne}
use Rattle.std.proofs.lemmas.List.{length-take, take_at}
use Rattle.std.specs.Str.{bytes_eq}
use Rattle.std.proofs.lemmas.Slice.Eq.{bytes_eq-Decides}
use Rattle.sha2.specs.Sha256.{sha256}
use Rattle.sha2.specs.declared.Sha256.{Sha256}
use Rattle.graph.specs.Planning.{Hashes}
use Rattle.stored.specs.declared.error.StoredError.{StoredError}
use Rattle.stored.specs.declared.error.StoredError.TheVariants as errors
use Rattle.stored.proofs.DigestLemmas.{hashes_none, hashes_then}
use Rattle.stored.specs.Reading.{Reading, needs, followed, told, seal_reading, Grows, TakesBytes, Tells, Fails, IsRead, AreBytes, IsOfBytes}

-- ---- calls
pub after_sure : (n : ℕ) (a b : Option ℕ) → AfterAtMost n a b → a ≡ None → b ≡ None
after_sure n None b p e = p
after_sure n (Some k) b p e = absurd (cc)

pub sure_all : (n : ℕ) (a : Option ℕ) → a ≡ None → AreSure a n
sure_all n None e = tt
sure_all n (Some k) e = absurd (cc)

-- ---- n bytes
pub needs-ok : (n : ℕ) (piece rest : List ℕ) → length piece ≡ n → needs n (piece ++ rest) ≡ Ok (piece, length piece)
unfolding needs
needs-ok n piece rest e =
    let long : n ≤ length (piece ++ rest) = omega (arith, e, length-append piece rest) in
    rw (le-ltb (length (piece ++ rest)) n long, ← e, take-append_seam piece rest) refl

pub needs-err : (n : ℕ) (bytes : List ℕ) → length bytes < n → needs n bytes ≡ Err errors.Short
unfolding needs
needs-err n bytes lt = rw (lt-ltb (length bytes) n lt) refl

-- ---- what is left
abbrev HasNone : Option (List ℕ) → Type 0
HasNone None = ⊤
HasNone (Some x) = ⊥

abbrev bytes_of : Option (List ℕ) → List ℕ
bytes_of None = []
bytes_of (Some x) = x

pub left : (old new : Option (List ℕ)) (piece bytes : List ℕ) → Consumes old new piece → old ≡ Some bytes → record { rest : List ℕ; is : new ≡ Some rest; split : bytes ≡ piece ++ rest }
left None new piece bytes p e = absurd (subst HasNone e tt)
left (Some xs) None piece bytes p e = absurd p
left (Some xs) (Some ys) piece bytes p e = record { rest = ys; is = refl; split = sym (ap bytes_of e) ∙ p }

-- the input ended first
pub ended_fails : {R : Type 0} {remaining : R → Option (List ℕ)} {failed : R → ℕ} {sure : R → Option ℕ} {a b : R} {A : Type 0} (reading : Reading A) (n count : ℕ) (buf : List ℕ)
    → ((bytes : List ℕ) → length bytes < n → reading bytes ≡ Err errors.Short) → EndsAfter count (remaining a) (remaining b) buf → length buf ≡ n → failed b ≡ failed a → Fails remaining failed sure reading a b errors.Short
ended_fails {remaining} {a} {b} reading n count buf short p long counted = record {
  rises = λ is. absurd is;
  counted = λ _. counted;
  unsure = λ _ is. absurd is;
  due = λ bytes known _.
      let l = left (remaining a) (remaining b) (take count buf) bytes p.consumed known in
      let none : l.rest ≡ [] = subst IsAtEnd l.is p.last in
      let size : length bytes ≡ length (take count buf) + length l.rest = ap length l.split ∙ length-append (take count buf) l.rest in
      short bytes (omega (arith, size, ap length none, p.fewer, long, length-take count buf));
}

-- a call failed
pub unread_fails : {R : Type 0} {remaining : R → Option (List ℕ)} {failed : R → ℕ} {sure : R → Option ℕ} {a b : R} {A : Type 0} (reading : Reading A) → RisesByOne (failed a) (failed b) → (sure a ≡ None → ⊥) → Fails remaining failed sure reading a b errors.Read
unread_fails reading rises unsure = record { rises = λ _. rises; counted = λ other. absurd (other tt); unsure = λ is _. unsure is; due = λ bytes known of. absurd of }

-- ---- n bytes that are digested
pub tells_bytes : {R : Type 0} {remaining : R → Option (List ℕ)} {failed : R → ℕ} {sure : R → Option ℕ} {a b : R} {t u : Sha256} (n : ℕ) (piece : List ℕ)
    → length piece ≡ n → Hashes t u piece → TakesBytes remaining failed sure a b piece → AreBytes piece → Tells remaining failed sure (needs n) a b t u piece
tells_bytes n piece long digested takes small = record { piece = piece; digested = digested; takes = takes; bytes = small; is_told = λ rest. needs-ok n piece rest long }

pub takes_then : {R : Type 0} {remaining : R → Option (List ℕ)} {failed : R → ℕ} {sure : R → Option ℕ} (a b c : R) (xs ys : List ℕ) → TakesBytes remaining failed sure a b xs → TakesBytes remaining failed sure b c ys → TakesBytes remaining failed sure a c (xs ++ ys)
takes_then {remaining} a b c xs ys p q = record { consumed = Consumes-trans (remaining a) (remaining b) (remaining c) xs ys p.consumed q.consumed; counted = q.counted ∙ p.counted; calls = λ is. q.calls (p.calls is) }

pub bytes_both : (xs ys : List ℕ) → AreBytes xs → AreBytes ys → AreBytes (xs ++ ys)
bytes_both [] ys p q i = q i
bytes_both (x ∷ xs) ys p q zero = p 0
bytes_both (x ∷ xs) ys p q (suc i) = bytes_both xs ys (λ j. p (suc j)) q i

-- ---- one reading, and after it another
pub followed-at : {A B : Type 0} (first : Reading A) (second : A → Reading B) (piece rest : List ℕ) (x : A) → first (piece ++ rest) ≡ Ok (x, length piece)
    → followed first second (piece ++ rest) ≡ (second x rest >>= λ b. Ok (b.0, length piece + b.1))
unfolding followed
followed-at first second piece rest x e = rw (e, drop-append_seam piece rest) refl

pub followed-err : {A B : Type 0} (first : Reading A) (second : A → Reading B) (bytes : List ℕ) (e : StoredError) → first bytes ≡ Err e → followed first second bytes ≡ Err e
unfolding followed
followed-err first second bytes e is = rw is refl

pub tells_then : {R : Type 0} {remaining : R → Option (List ℕ)} {failed : R → ℕ} {sure : R → Option ℕ} {A B : Type 0} {first : Reading A} (second : A → Reading B) {a b c : R} {t u v : Sha256} (x : A) (y : B)
    → Tells remaining failed sure first a b t u x → Tells remaining failed sure (second x) b c u v y → Tells remaining failed sure (followed first second) a c t v y
tells_then {first} second {a} {b} {c} {t} {u} {v} x y p q =
    let one = p.piece in
    let two = q.piece in
    record {
      piece = one ++ two;
      digested = hashes_then t u v one two p.digested q.digested;
      takes = takes_then a b c one two p.takes q.takes;
      bytes = bytes_both one two p.bytes q.bytes;
      is_told = λ rest. ap (followed first second) (append_assoc one two rest) ∙ followed-at first second one (two ++ rest) x (p.is_told (two ++ rest))
          ∙ rw (q.is_told rest, length-append one two) refl;
    }

-- what was read passes a check
pub tells_checked : {R : Type 0} {remaining : R → Option (List ℕ)} {failed : R → ℕ} {sure : R → Option ℕ} {A B : Type 0} {first : Reading A} (check : A → Result B StoredError) {a b : R} {t u : Sha256} (x : A) (y : B)
    → check x ≡ Ok y → Tells remaining failed sure first a b t u x → Tells remaining failed sure (followed first (λ z. told (check z))) a b t u y
unfolding told
tells_checked {first} check x y e p =
    let none : length p.piece + 0 ≡ length p.piece = omega arith in
    record { piece = p.piece; digested = p.digested; takes = p.takes; bytes = p.bytes; is_told = λ rest. followed-at first (λ z. told (check z)) p.piece rest x (p.is_told rest) ∙ rw (e, none) refl }

pub fails_first : {R : Type 0} {remaining : R → Option (List ℕ)} {failed : R → ℕ} {sure : R → Option ℕ} {A B : Type 0} {first : Reading A} (second : A → Reading B) {a b : R} {e : StoredError} → Fails remaining failed sure first a b e → Fails remaining failed sure (followed first second) a b e
fails_first {first} second {e} p = record { rises = p.rises; counted = p.counted; unsure = p.unsure; due = λ bytes known of. followed-err first second bytes e (p.due bytes known of) }

-- a piece is read, and then the rest is not
pub fails_then : {R : Type 0} {remaining : R → Option (List ℕ)} {failed : R → ℕ} {sure : R → Option ℕ} {A B : Type 0} {rest_of : Reading A} (whole : Reading B) {a b c : R} {piece : List ℕ} {e : StoredError} → TakesBytes remaining failed sure a b piece
    → ((rest : List ℕ) → rest_of rest ≡ Err e → whole (piece ++ rest) ≡ Err e) → Fails remaining failed sure rest_of b c e → Fails remaining failed sure whole a c e
fails_then {remaining} {failed} whole {a} {b} {c} {piece} p same q = record {
  rises = λ is. subst (λ k. RisesByOne k (failed c)) p.counted (q.rises is);
  counted = λ is. q.counted is ∙ p.counted;
  unsure = λ is. q.unsure (p.calls is);
  due = λ bytes known of.
      let l = left (remaining a) (remaining b) piece bytes p.consumed known in
      rw l.split (same l.rest (q.due l.rest l.is of));
}

pub fails_second : {R : Type 0} {remaining : R → Option (List ℕ)} {failed : R → ℕ} {sure : R → Option ℕ} {A B : Type 0} {first : Reading A} (second : A → Reading B) {a b c : R} {t u : Sha256} (x : A) {e : StoredError}
    → Tells remaining failed sure first a b t u x → Fails remaining failed sure (second x) b c e → Fails remaining failed sure (followed first second) a c e
fails_second {first} second x p q = fails_then (followed first second) p.takes (λ rest is. followed-at first second p.piece rest x (p.is_told rest) ∙ rw is refl) q

-- ---- a check of what was read, by its answer
pub checked_done : {R : Type 0} {remaining : R → Option (List ℕ)} {failed : R → ℕ} {sure : R → Option ℕ} {A B : Type 0} {first : Reading A} (check : A → Result B StoredError) {a b : R} {t u : Sha256} (x : A) (r : Result B StoredError)
    → r ≡ check x → Tells remaining failed sure first a b t u x → IfOk r (λ y. Tells remaining failed sure (followed first (λ z. told (check z))) a b t u y)
checked_done check x (Ok y) e p = tells_checked check x y (sym e) p
checked_done check x (Err d) e p = tt

-- the check says so, or memory was refused
pub checked_stops : {R : Type 0} {remaining : R → Option (List ℕ)} {failed : R → ℕ} {sure : R → Option ℕ} {A B : Type 0} {first : Reading A} (check : A → Result B StoredError) {a b : R} {t u : Sha256} (x : A) (e : StoredError)
    → (IsOfBytes e → check x ≡ Err e) → (IsRead e → ⊥) → Tells remaining failed sure first a b t u x → Fails remaining failed sure (followed first (λ z. told (check z))) a b e
unfolding told
checked_stops {remaining} {first} check {a} {b} x e is other p = record {
  rises = λ read. absurd (other read);
  counted = λ _. p.takes.counted;
  unsure = λ _ read. other read;
  due = λ bytes known of.
      let l = left (remaining a) (remaining b) p.piece bytes p.takes.consumed known in
      rw l.split (followed-at first (λ z. told (check z)) p.piece l.rest x (p.is_told l.rest) ∙ rw (is of) refl);
}

pub checked_fails : {R : Type 0} {remaining : R → Option (List ℕ)} {failed : R → ℕ} {sure : R → Option ℕ} {A B : Type 0} {first : Reading A} (check : A → Result B StoredError) {a b : R} {t u : Sha256} (x : A) (r : Result B StoredError)
    → r ≡ check x → IfErr r (λ e. IsRead e → ⊥) → Tells remaining failed sure first a b t u x → IfErr r (λ e. Fails remaining failed sure (followed first (λ z. told (check z))) a b e)
checked_fails check x (Ok y) e other p = tt
checked_fails check x (Err d) e other p = checked_stops check x d (λ _. sym e) other p

pub tells_full : {R : Type 0} {remaining : R → Option (List ℕ)} {failed : R → ℕ} {sure : R → Option ℕ} {a b : R} {t u : Sha256} {x : List ℕ} (n m : ℕ) → m ≡ n → Tells remaining failed sure (needs m) a b t u x → Tells remaining failed sure (needs n) a b t u x
tells_full {remaining} {failed} {sure} {a} {b} {t} {u} {x} n m e p = subst (λ (k : ℕ). Tells remaining failed sure (needs k) a b t u x) e p

pub fails_full : {R : Type 0} {remaining : R → Option (List ℕ)} {failed : R → ℕ} {sure : R → Option ℕ} {a b : R} {e : StoredError} (n m : ℕ) → m ≡ n → Fails remaining failed sure (needs m) a b e → Fails remaining failed sure (needs n) a b e
fails_full {remaining} {failed} {sure} {a} {b} {e} n m is p = subst (λ (k : ℕ). Fails remaining failed sure (needs k) a b e) is p

-- ---- n bytes, in pieces
needs-full : (n : ℕ) (bytes : List ℕ) → n ≤ length bytes → needs n bytes ≡ Ok (take n bytes, n)
unfolding needs
needs-full n bytes le = rw (le-ltb (length bytes) n le) refl

abbrev told_bytes : Result (List ℕ × ℕ) StoredError → List ℕ
told_bytes (Ok x) = x.0
told_bytes (Err e) = []

abbrev told_number : Result (List ℕ × ℕ) StoredError → ℕ
told_number (Ok x) = x.1
told_number (Err e) = 0

pub needs_is : (n k : ℕ) (bytes x : List ℕ) → needs n bytes ≡ Ok (x, k) → (x ≡ take n bytes) × (k ≡ n)
needs_is n k bytes x e = elim (cases_lt (length bytes) n) [
  | inl lt ↦ let short = needs-err n bytes lt in absurd (cc)
  | inr le ↦ let is = sym (needs-full n bytes le) ∙ e in (sym (ap told_bytes is), sym (ap told_number is))
]

abbrev refusal : StoredError → Result (List ℕ × ℕ) StoredError
refusal e = Err e

needs_refuses : (n : ℕ) (e : StoredError) (bytes : List ℕ) → needs n bytes ≡ Err e → (length bytes < n) × (refusal errors.Short ≡ refusal e)
needs_refuses n e bytes is = elim (cases_lt (length bytes) n) [
  | inl lt ↦ (lt, sym (needs-err n bytes lt) ∙ is)
  | inr le ↦ let long = needs-full n bytes le in absurd (cc)
]

-- the reading of n bytes is these bytes
piece_is : {R : Type 0} {remaining : R → Option (List ℕ)} {failed : R → ℕ} {sure : R → Option ℕ} {a b : R} {t u : Sha256} {x : List ℕ} (n : ℕ) (p : Tells remaining failed sure (needs n) a b t u x) → (x ≡ p.piece) × (length p.piece ≡ n)
piece_is {x} n p =
    let q = needs_is n (length p.piece) (p.piece ++ []) x (p.is_told []) in
    (q.0 ∙ ap (λ (m : ℕ). take m (p.piece ++ [])) (sym q.1) ∙ take-append_seam p.piece [], q.1)

pub bytes_none : {R : Type 0} (remaining : R → Option (List ℕ)) (failed : R → ℕ) (sure : R → Option ℕ) (a : R) (t : Sha256) → Tells remaining failed sure (needs 0) a a t t []
bytes_none remaining failed sure a t = tells_bytes 0 [] refl (hashes_none t) (record { consumed = Consumes-nil (remaining a); counted = refl; calls = λ is. is }) (λ i. omega arith)

pub bytes_more : {R : Type 0} {remaining : R → Option (List ℕ)} {failed : R → ℕ} {sure : R → Option ℕ} {a b c : R} {t u v : Sha256} {xs zs : List ℕ} (n m k : ℕ) → k ≡ n + m → Tells remaining failed sure (needs n) a b t u xs → Grows remaining failed sure m b c u v xs zs → Tells remaining failed sure (needs k) a c t v zs
bytes_more {remaining} {failed} {sure} {a} {b} {c} {t} {u} {v} {xs} {zs} n m k sum p g =
    let q = g.tells in
    let one = piece_is n p in
    let two = piece_is m q in
    let all : zs ≡ p.piece ++ q.piece = g.grown ∙ ap (λ (l : List ℕ). l ++ g.bytes) one.0 ∙ ap (λ (l : List ℕ). p.piece ++ l) two.0 in
    subst (λ (l : List ℕ). Tells remaining failed sure (needs k) a c t v l) (sym all)
    (tells_bytes k (p.piece ++ q.piece) (omega (arith, length-append p.piece q.piece, one.1, two.1, sum)) (hashes_then t u v p.piece q.piece p.digested q.digested) (takes_then a b c p.piece q.piece p.takes q.takes) (bytes_both p.piece q.piece p.bytes q.bytes))

pub bytes_fail : {R : Type 0} {remaining : R → Option (List ℕ)} {failed : R → ℕ} {sure : R → Option ℕ} {a b c : R} {t u : Sha256} {xs : List ℕ} {e : StoredError} (n m k : ℕ) → n + m ≤ k → Tells remaining failed sure (needs n) a b t u xs → Fails remaining failed sure (needs m) b c e → Fails remaining failed sure (needs k) a c e
bytes_fail {e} n m k le p q =
    let one = piece_is n p in
    fails_then (needs k) p.takes (λ rest is. let r = needs_refuses m e rest is in needs-err k (p.piece ++ rest) (omega (arith, length-append p.piece rest, one.1, r.0, le)) ∙ r.1) q

-- ---- the digest
seal-short : (content bytes : List ℕ) → length bytes < 32 → seal_reading content bytes ≡ Err errors.Short
unfolding seal_reading
seal-short content bytes lt = rw (lt-ltb (length bytes) 32 lt) refl

seal-other : (content digest rest : List ℕ) → length digest ≡ 32 → bytes_eq digest (sha256 content) ≡ false → seal_reading content (digest ++ rest) ≡ Err errors.Digest
unfolding seal_reading
seal-other content digest rest long other =
    let many : 32 ≤ length (digest ++ rest) = omega (arith, long, length-append digest rest) in
    let front : take 32 (digest ++ rest) ≡ digest = take_at digest rest 32 long in
    rw (le-ltb (length (digest ++ rest)) 32 many, front, other) refl

abbrev told_error : Result (List ℕ × ℕ) StoredError → StoredError
told_error (Ok x) = errors.Memory
told_error (Err e) = e

pub seal_unread : {R : Type 0} {remaining : R → Option (List ℕ)} {failed : R → ℕ} {sure : R → Option ℕ} {a b : R} {e : StoredError} (content : List ℕ) → Fails remaining failed sure (needs 32) a b e → Fails remaining failed sure (seal_reading content) a b e
seal_unread {e} content p = record {
  rises = p.rises;
  counted = p.counted;
  unsure = p.unsure;
  due = λ bytes known of. let r = needs_refuses 32 e bytes (p.due bytes known of) in seal-short content bytes r.0 ∙ ap Err (ap told_error r.1);
}

flip_true : (b : Bool) → true ≡ not b → b ≡ false
flip_true true e = e
flip_true false e = refl

flip_false : (b : Bool) → false ≡ not b → b ≡ true
flip_false true e = refl
flip_false false e = e

pub seal_differs : {R : Type 0} {remaining : R → Option (List ℕ)} {failed : R → ℕ} {sure : R → Option ℕ} {a b : R} (content digest right : List ℕ) → right ≡ sha256 content → true ≡ not (bytes_eq digest right) → length digest ≡ 32 → TakesBytes remaining failed sure a b digest → Fails remaining failed sure (seal_reading content) a b errors.Digest
seal_differs {remaining} {a} {b} content digest right is other long p = record {
  rises = λ no_. absurd no_;
  counted = λ _. p.counted;
  unsure = λ _ no_. no_;
  due = λ bytes known of.
      let l = left (remaining a) (remaining b) digest bytes p.consumed known in
      rw l.split (seal-other content digest l.rest long (subst (λ (x : List ℕ). bytes_eq digest x ≡ false) is (flip_true (bytes_eq digest right) other)));
}

pub seal_is : {R : Type 0} {remaining : R → Option (List ℕ)} {failed : R → ℕ} {sure : R → Option ℕ} {a b : R} (digest right : List ℕ) → false ≡ not (bytes_eq digest right) → TakesBytes remaining failed sure a b digest → TakesBytes remaining failed sure a b right
seal_is {remaining} {failed} {sure} {a} {b} digest right same p = subst (λ (x : List ℕ). TakesBytes remaining failed sure a b x) ((bytes_eq-Decides digest right).0 (flip_false (bytes_eq digest right) same)) p
