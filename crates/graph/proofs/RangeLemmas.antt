-- Ranges of numbers, the first value that a function gives over one, and copies of one value.
use Rattle.std.proofs.Common.{◌≡◌, ℕ, zero, suc, ◌+◌, ◌<◌, ◌≤◌, Bool, true, List, ◌∷◌, get_or, replicate, refl, ap, arith, map}
use Rattle.std.specs.List.{filter, range_with_len}
use Rattle.std.specs.Prelude.{Option, Some, None}
use Rattle.ball_model.specs.Input.{first_of}

-- tests that agree below a bound keep the same of a range below it
pub filter_range-same : (p q : ℕ → Bool) (a n bound : ℕ) → a + n ≤ bound → ((k : ℕ) → k < bound → p k ≡ q k) → filter p (range_with_len a n) ≡ filter q (range_with_len a n)
filter_range-same p q a zero bound le h = refl
filter_range-same p q a (suc n) bound le h = rw (h a (omega arith), filter_range-same p q (a + 1) n bound (omega arith) h) refl

-- each of some copies, where a read past them gives the same value
pub copies-at : {X : Type 0} (n i : ℕ) (x : X) → get_or (replicate n x) i x ≡ x
copies-at zero i x = refl
copies-at (suc n) zero x = refl
copies-at (suc n) (suc i) x = copies-at n i x

-- a test that all numbers pass keeps the range
pub filter-all : (a n : ℕ) → filter (λ v. true) (range_with_len a n) ≡ range_with_len a n
filter-all a zero = refl
filter-all a (suc n) = ap (λ (r : List ℕ). a ∷ r) (filter-all (a + 1) n)

pub first-none : {X : Type 0} (f : ℕ → Option X) (a n : ℕ) → ((k : ℕ) → k < a + n → f k ≡ None) → first_of (map f (range_with_len a n)) ≡ None
first-none f a zero h = refl
first-none f a (suc n) h = rw (h a (omega arith)) (first-none f (a + 1) n (λ k lt. h k (omega arith)))

pub first-some : {X : Type 0} (f : ℕ → Option X) (x : X) (a n k : ℕ) → k < n → ((j : ℕ) → j < a + k → f j ≡ None) → f (a + k) ≡ Some x → first_of (map f (range_with_len a n)) ≡ Some x
first-some f x a zero k lt h here = absurd (omega arith)
first-some f x a (suc n) zero lt h here = let e : a + 0 ≡ a = omega arith in let at = rw e at here in rw at refl
first-some f x a (suc n) (suc k) lt h here =
    let e : a + suc k ≡ (a + 1) + k = omega arith in
    let at = rw e at here in
    rw (h a (omega arith)) (first-some f x (a + 1) n k (omega arith) (λ j less. h j (omega arith)) at)
