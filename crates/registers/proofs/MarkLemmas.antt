-- Marks that are passed over.
use Rattle.std.proofs.Common.{◌≡◌, ℕ, zero, suc, ◌+◌, ◌-◌, ◌<◌, ◌≤◌, Bool, false, List, get_or, arith, inl, inr, subst, ◌∙◌}
use Rattle.std.proofs.lemmas.Bool.{cases_lt}
use Rattle.registers.specs.Marks.{AreBlank, IsNextMarked}

-- one place more
pub blank_more : (marks : List Bool) (from i : ℕ) → AreBlank marks from i → get_or marks i false ≡ false → AreBlank marks from (i + 1)
blank_more marks from i before here k low lt =
    elim (cases_lt k i) [
      | inl less ↦ before k low less
      | inr more ↦ let e : i ≡ k = omega arith in subst (λ (j : ℕ). get_or marks j false ≡ false) e here
    ]

carried : (P : ℕ → Type 0) (gap from : ℕ) → ((k : ℕ) → from ≤ k → k < from + gap → P k → P (k + 1)) → P from → P (from + gap)
carried P zero from step h = let e : from ≡ from + 0 = omega arith in subst P e h
carried P (suc gap) from step h =
    let e : (from + 1) + gap ≡ from + suc gap = omega arith in
    subst P e (carried P gap (from + 1) (λ k low lt. step k (omega arith) (omega arith)) (step from (omega arith) (omega arith) h))

-- what each place that is not marked keeps holds at the next marked one too
pub at_next : (P : ℕ → Type 0) (marks : List Bool) (from next : ℕ) → IsNextMarked marks from next → ((k : ℕ) → from ≤ k → k < next → get_or marks k false ≡ false → P k → P (k + 1)) → P from → P next
at_next P marks from next is step h =
    let e : from + (next - from) ≡ next = omega (arith, is.low) in
    subst P e (carried P (next - from) from (λ k low lt. let less : k < next = omega arith in step k low less (is.blank k low less)) h)

-- a list that is right before one place and unchanged from there on, where it is to stay as it is up to another
pub passed : {X : Type 0} (F G : ℕ → X) (xs : List X) (d : X) (from next : ℕ) → ((k : ℕ) → k < from → get_or xs k d ≡ F k) → ((k : ℕ) → from ≤ k → get_or xs k d ≡ G k) → ((k : ℕ) → from ≤ k → k < next → G k ≡ F k) →
    (k : ℕ) → k < next → get_or xs k d ≡ F k
passed F G xs d from next done rest stays k lt = elim (cases_lt k from) [ inl before ↦ done k before | inr after ↦ rest k after ∙ stays k after lt ]
