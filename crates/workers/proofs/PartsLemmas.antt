-- Parts of a plan that get their job digest, one after another.
use Rattle.std.proofs.Common.{◌≡◌, ◌<◌, ◌+◌, ℕ, suc, List, [], ◌∷◌, ◌++◌, length, sym, subst, arith, slice_index_or, length-append}
use Rattle.std.specs.Prelude.{IfOk, Result}
use Rattle.ball_model.specs.Job.{Job, PartValue, part_of}
use Rattle.workers.specs.Job.{AreMade, AreParts, EachAt, signed_job}
use Rattle.workers.proofs.JobLemmas.{each_is, each_push}

-- the part of partition p
abbrev pub IsPartAt : Job → ℕ → PartValue → Type 0
IsPartAt j p part = part ≡ part_of j p

-- that part, if there was memory for it
abbrev pub IsMadeAt : {E : Type 0} → Job → ℕ → Result PartValue E → Type 0
IsMadeAt j p part = IfOk part (IsPartAt j p)

each_at : {A : Type 0} (has : ℕ → A → Type 0) (k : ℕ) (xs : List A) → ((i : ℕ) (d : A) → i < length xs → has (k + i) (slice_index_or xs i d)) → EachAt has k xs
each_at has k [] h = tt
each_at has k (x ∷ xs) h = (
  subst (λ (n : ℕ). has n x) (let e : k + 0 ≡ k = omega arith in e) (h 0 x (omega arith)),
  each_at has (k + 1) xs (λ i d lt. subst (λ (n : ℕ). has n (slice_index_or xs i d)) (let e : k + suc i ≡ k + 1 + i = omega arith in e) (h (suc i) d (omega (arith, lt)))),
)

-- the parts that have their digest, and those that have not yet
pub record Signing {E : Type 0} (j : Job) (digest : List ℕ) (rest : List (Result PartValue E)) (shared : List PartValue) : Type 0 where
  pub count : length shared + length rest ≡ j.plan.parts
  pub left : EachAt (IsMadeAt j) (length shared) rest
  pub given : EachAt (IsPartAt (signed_job j digest)) 0 shared

pub signing_begun : {E : Type 0} (j : Job) (digest : List ℕ) (parts : List (Result PartValue E)) → AreMade j parts → Signing j digest parts []
signing_begun j digest parts h = record {
  count = (let e : 0 + length parts ≡ j.plan.parts = omega (arith, h.count) in e);
  left = each_at (IsMadeAt j) 0 parts (λ p d lt. subst (λ (n : ℕ). IsMadeAt j n (slice_index_or parts p d)) (let e : p ≡ 0 + p = omega arith in e) (h.each p d (let e : p < j.plan.parts = rw h.count at lt in e)));
  given = tt;
}

pub signing_more : {E : Type 0} (j : Job) (digest : List ℕ) (part : Result PartValue E) (rest : List (Result PartValue E)) (shared : List PartValue) (r : PartValue) → Signing j digest (part ∷ rest) shared →
    ((p : ℕ) → IsMadeAt j p part → IsPartAt (signed_job j digest) p r) → Signing j digest rest (shared ++ r ∷ [])
signing_more j digest part rest shared r h one =
    let more : length (shared ++ r ∷ []) ≡ length shared + 1 = length-append shared (r ∷ []) in
    record {
      count = omega (arith, more, h.count);
      left = subst (λ (n : ℕ). EachAt (IsMadeAt j) n rest) (sym more) h.left.1;
      given = each_push (IsPartAt (signed_job j digest)) 0 shared r h.given (subst (λ (p : ℕ). IsPartAt (signed_job j digest) p r) (let e : length shared ≡ 0 + length shared = omega arith in e) (one (length shared) h.left.0));
    }

pub signing_done : {E : Type 0} (j : Job) (digest : List ℕ) (rest : List (Result PartValue E)) (shared : List PartValue) → Signing j digest rest shared → length rest ≡ 0 → AreParts (signed_job j digest) shared
signing_done j digest rest shared h none =
    let all : length shared ≡ j.plan.parts = omega (arith, h.count, none) in
    record { count = all; each = λ p d lt. subst (λ (n : ℕ). IsPartAt (signed_job j digest) n (slice_index_or shared p d)) (let e : 0 + p ≡ p = omega arith in e) (each_is (IsPartAt (signed_job j digest)) 0 shared p d h.given (let e : p < length shared = rw (sym all) at lt in e)) }
