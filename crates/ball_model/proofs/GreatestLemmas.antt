-- The laws of the greatest value over the numbers that pass a test.
use Rattle.std.proofs.Common.{◌≡◌, ℕ, zero, suc, ◌<◌, ◌≤◌, max, Bool, true, false, if◌then◌else◌, ◌||◌, refl, ap, arith, inl, inr, subst, ◌∙◌}
use Rattle.std.proofs.Math.Nat.{le-max_right}
use Rattle.std.proofs.lemmas.Bool.{cases_lt}
use Rattle.ball_model.specs.Greatest.{greatest}

-- one more number, where it passes
bounds_here : (b : Bool) (x rest : ℕ) → b ≡ true → x ≤ max (if b then x else 0) rest
bounds_here true x rest e = omega arith
bounds_here false x rest e = absurd (cc)

least_here : (b : Bool) (x rest bound : ℕ) → (b ≡ true → x ≤ bound) → rest ≤ bound → max (if b then x else 0) rest ≤ bound
least_here true x rest bound here below = let h = here refl in omega arith
least_here false x rest bound here below = omega arith

or_here : (a b : Bool) (x m n : ℕ) → max (if (a || b) then x else 0) (max m n) ≡ max (max (if a then x else 0) m) (max (if b then x else 0) n)
or_here true true x m n = omega arith
or_here true false x m n = omega arith
or_here false true x m n = omega arith
or_here false false x m n = omega arith

-- it is at least each value
pub greatest-bounds : (p : ℕ → Bool) (f : ℕ → ℕ) (n k : ℕ) → k < n → p k ≡ true → f k ≤ greatest p f n
unfolding greatest
greatest-bounds p f zero k lt pass = absurd (omega arith)
greatest-bounds p f (suc n) k lt pass =
    elim (cases_lt k n) [
      | inl below ↦ omega (arith, greatest-bounds p f n k below pass, le-max_right (if p n then f n else 0) (greatest p f n))
      | inr above ↦ let e : n ≡ k = omega arith in subst (λ (i : ℕ). f i ≤ greatest p f (suc n)) e (bounds_here (p n) (f n) (greatest p f n) (ap p e ∙ pass))
    ]

-- it is at most any bound
pub greatest-least : (p : ℕ → Bool) (f : ℕ → ℕ) (n bound : ℕ) → ((k : ℕ) → k < n → p k ≡ true → f k ≤ bound) → greatest p f n ≤ bound
unfolding greatest
greatest-least p f zero bound h = omega arith
greatest-least p f (suc n) bound h =
    least_here (p n) (f n) (greatest p f n) bound (λ pass. h n (omega arith) pass) (greatest-least p f n bound (λ k below. h k (omega arith)))

-- the union of two sets
pub greatest-or : (p q : ℕ → Bool) (f : ℕ → ℕ) (n : ℕ) → greatest (λ k. p k || q k) f n ≡ max (greatest p f n) (greatest q f n)
unfolding greatest
greatest-or p q f zero = refl
greatest-or p q f (suc n) =
    rw (greatest-or p q f n) (or_here (p n) (q n) (f n) (greatest p f n) (greatest q f n))

-- only the numbers below n are looked at
pub greatest-same : (p q : ℕ → Bool) (f : ℕ → ℕ) (n : ℕ) → ((k : ℕ) → k < n → p k ≡ q k) → greatest p f n ≡ greatest q f n
unfolding greatest
greatest-same p q f zero h = refl
greatest-same p q f (suc n) h =
    rw (h n (omega arith), greatest-same p q f n (λ k below. h k (omega arith))) refl
