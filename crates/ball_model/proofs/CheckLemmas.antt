-- Checks and steps, one after the other.
use Rattle.std.proofs.Common.{◌≡◌, ℕ, ◌==◌, Bool, true, false, cond, Result, Ok, Err, refl}
use Rattle.std.specs.Prelude.{not, OnErr}
use Rattle.std.proofs.lemmas.Bool.{eqb-true, not-false}
use Rattle.ball_model.specs.Checks.{◌>>=◌}

-- a step that passed, and what followed it
pub bind_ok : {A B E : Type 0} (r : Result A E) (f : A → Result B E) (y : B) → (r >>= f) ≡ Ok y → (x : A) × (r ≡ Ok x) × (f x ≡ Ok y)
bind_ok (Ok x) f y e = (x, refl, e)
bind_ok (Err d) f y e = absurd cc

-- a check that passed, and what followed it
pub guard_ok : {A E : Type 0} (b : Bool) (d : E) (r : Result A E) (y : A) → cond b (Err d) r ≡ Ok y → (b ≡ false) × (r ≡ Ok y)
guard_ok true d r y e = absurd cc
guard_ok false d r y e = (refl, e)

-- a check that fails where two numbers differ, and passed
pub equal_checked : (a b : ℕ) → not (a == b) ≡ false → a ≡ b
equal_checked a b e = eqb-true a b (not-false (a == b) e)

-- what holds whatever the answer is holds of an error
pub on_err : {T E P : Type 0} (r : Result T E) → P → OnErr r P
on_err (Ok x) p = tt
on_err (Err e) p = p
