-- The parts of what was read.
use Rattle.std.proofs.Common.{◌≡◌, ℕ, ◌+◌, ◌≤◌, List, length, take, drop, Result, Ok, Err, ap, sym, ◌∙◌, arith, inl, inr}
use Rattle.std.proofs.lemmas.Bool.{cases_lt}
use Rattle.ball_model.specs.Checks.{◌>>=◌}
use Rattle.ball_model.proofs.CheckLemmas.{bind_ok}
use Rattle.stored.specs.declared.error.StoredError.{StoredError}
use Rattle.stored.specs.Reading.{Reading, followed, needs, told}
use Rattle.stored.proofs.ReadLemmas.{needs-err, needs_is}

abbrev value_or : {A : Type 0} → A → Result (A × ℕ) StoredError → A
value_or x (Ok y) = y.0
value_or x (Err e) = x

abbrev size_or : {A : Type 0} → Result (A × ℕ) StoredError → ℕ
size_or (Ok y) = y.1
size_or (Err e) = 0

abbrev answer : {A : Type 0} → A → ℕ → Result (A × ℕ) StoredError
answer x k = Ok (x, k)

pub ok_same : {A : Type 0} (x y : A) (k l : ℕ) → answer x k ≡ answer y l → (x ≡ y) × (k ≡ l)
ok_same x y k l e = (ap (value_or x) e, ap size_or e)

-- one reading and after it another came to this
pub record Parts {A B : Type 0} (first : Reading A) (second : A → Reading B) (bytes : List ℕ) (y : B) (n : ℕ) : Type 0 where
  pub x : A
  pub k : ℕ
  pub l : ℕ
  pub one : first bytes ≡ Ok (x, k)
  pub two : second x (drop k bytes) ≡ Ok (y, l)
  pub sum : n ≡ k + l

abbrev plus : {B : Type 0} → ℕ → B × ℕ → Result (B × ℕ) StoredError
plus k b = Ok (b.0, k + b.1)

abbrev then_second : {A B : Type 0} → (A → Reading B) → List ℕ → A × ℕ → Result (B × ℕ) StoredError
then_second second bytes a = second a.0 (drop a.1 bytes) >>= plus a.1

pub parts : {A B : Type 0} (first : Reading A) (second : A → Reading B) (bytes : List ℕ) (y : B) (n : ℕ) → followed first second bytes ≡ Ok (y, n) → Parts first second bytes y n
unfolding followed
parts {B} first second bytes y n is =
    let a = bind_ok (first bytes) (then_second second bytes) (y, n) is in
    let b = bind_ok (second a.0.0 (drop a.0.1 bytes)) (plus a.0.1) (y, n) a.2 in
    let e = ok_same b.0.0 y (a.0.1 + b.0.1) n b.2 in
    record { x = a.0.0; k = a.0.1; l = b.0.1; one = a.1; two = b.1 ∙ ap (λ (z : B). answer z b.0.1) e.0; sum = sym e.1 }

pub needed : (m : ℕ) (bytes x : List ℕ) (k : ℕ) → needs m bytes ≡ Ok (x, k) → (m ≤ length bytes) × (x ≡ take m bytes) × (k ≡ m)
needed m bytes x k e =
    let q = needs_is m k bytes x e in
    let long : m ≤ length bytes = elim (cases_lt (length bytes) m) [ inl lt ↦ let short = needs-err m bytes lt in absurd (cc) | inr le ↦ le ] in
    (long, q.0, q.1)

pub told_is : {A : Type 0} (r : Result A StoredError) (bytes : List ℕ) (x : A) (k : ℕ) → told r bytes ≡ Ok (x, k) → (r ≡ Ok x) × (k ≡ 0)
unfolding told
told_is (Ok a) bytes x k e = let p = ok_same a x 0 k e in (ap Ok p.0, sym p.1)
told_is (Err d) bytes x k e = absurd (cc)

-- m bytes pass a check
pub record Passed {B : Type 0} (m : ℕ) (check : List ℕ → Result B StoredError) (bytes : List ℕ) (y : B) (n : ℕ) : Type 0 where
  pub long : m ≤ length bytes
  pub size : n ≡ m
  pub passes : check (take m bytes) ≡ Ok y

pub passed : {B : Type 0} (m : ℕ) (check : List ℕ → Result B StoredError) (bytes : List ℕ) (y : B) (n : ℕ) → followed (needs m) (λ z. told (check z)) bytes ≡ Ok (y, n) → Passed m check bytes y n
passed m check bytes y n is =
    let p = parts (needs m) (λ z. told (check z)) bytes y n is in
    let q = needed m bytes p.x p.k p.one in
    let r = told_is (check p.x) (drop p.k bytes) y p.l p.two in
    record { long = q.0; size = omega (arith, p.sum, q.2, r.1); passes = ap check (sym q.1) ∙ r.0 }
