-- The end of a run is the least superstep with no vertex changed, or the limit.
use Rattle.std.proofs.Common.{◌≡◌, ℕ, zero, suc, ◌+◌, ◌<◌, ◌≤◌, Bool, true, false, not, cond, refl, arith, inl, inr, ◌⊎◌, subst}
use Rattle.std.specs.Prelude.{Option, None, Some, unwrap_or}
use Rattle.std.specs.List.{range_with_len, find}
use Rattle.std.proofs.lemmas.Bool.{cases_lt, not-false, not-true}
use Rattle.ball_model.specs.Graph.{Graph}
use Rattle.ball_model.specs.Counter.{Mixing}
use Rattle.ball_model.specs.Change.{any_changed}
use Rattle.ball_model.specs.Supersteps.{end_of}

-- what `find` finds among the numbers from a on: it passes, it is one of them, and none before it passes
pub record IsFound (p : ℕ → Bool) (a n e : ℕ) : Type 0 where
  pub passes : p e ≡ true
  pub low : a ≤ e
  pub high : e < a + n
  pub first : (k : ℕ) → a ≤ k → k < e → p k ≡ false

found_step : (b : Bool) (p : ℕ → Bool) (a n e : ℕ) → p a ≡ b → cond b (Some a) (find p (range_with_len (a + 1) n)) ≡ Some e →
    (find p (range_with_len (a + 1) n) ≡ Some e → IsFound p (a + 1) n e) → IsFound p a (suc n) e
found_step true p a n e at is later =
    let same : a ≡ e = cc in
    record { passes = subst (λ (k : ℕ). p k ≡ true) same at; low = omega arith; high = omega arith; first = λ k low lt. absurd (omega arith) }
found_step false p a n e at is later =
    let r = later is in
    record {
      passes = r.passes;
      low = omega (arith, r.low);
      high = omega (arith, r.high);
      first = λ k low lt. elim (cases_lt a k) [
        | inl above ↦ r.first k (omega arith) lt
        | inr here ↦ let same : a ≡ k = omega arith in subst (λ (j : ℕ). p j ≡ false) same at
      ];
    }

pub find_found : (p : ℕ → Bool) (a n e : ℕ) → find p (range_with_len a n) ≡ Some e → IsFound p a n e
find_found p a zero e is = absurd (cc)
find_found p a (suc n) e is = found_step (p a) p a n e refl is (λ h. find_found p (a + 1) n e h)

none_step : (b : Bool) (p : ℕ → Bool) (a n : ℕ) → p a ≡ b → cond b (Some a) (find p (range_with_len (a + 1) n)) ≡ None →
    (find p (range_with_len (a + 1) n) ≡ None → (k : ℕ) → a + 1 ≤ k → k < (a + 1) + n → p k ≡ false) → (k : ℕ) → a ≤ k → k < a + suc n → p k ≡ false
none_step true p a n at is later k low lt = absurd (cc)
none_step false p a n at is later k low lt =
    elim (cases_lt a k) [
      | inl above ↦ later is k (omega arith) (omega arith)
      | inr here ↦ let same : a ≡ k = omega arith in subst (λ (j : ℕ). p j ≡ false) same at
    ]

-- where nothing is found, none passes
pub find_none : (p : ℕ → Bool) (a n : ℕ) → find p (range_with_len a n) ≡ None → (k : ℕ) → a ≤ k → k < a + n → p k ≡ false
find_none p a zero is k low lt = absurd (omega arith)
find_none p a (suc n) is k low lt = none_step (p a) p a n refl is (λ h. find_none p (a + 1) n h) k low lt

within_case : (o : Option ℕ) (p : ℕ → Bool) (limit : ℕ) → find p (range_with_len 1 limit) ≡ o → 1 ≤ limit → (1 ≤ unwrap_or o limit) × (unwrap_or o limit ≤ limit)
within_case None p limit is some = (some, omega arith)
within_case (Some e) p limit is some = let f = find_found p 1 limit e is in (f.low, omega (arith, f.high))

least_case : (o : Option ℕ) (p : ℕ → Bool) (limit t : ℕ) → find p (range_with_len 1 limit) ≡ o → 1 ≤ t → t < unwrap_or o limit → p t ≡ false
least_case None p limit t is low lt = find_none p 1 limit is t low (omega arith)
least_case (Some e) p limit t is low lt = (find_found p 1 limit e is).first t low lt

reached_case : (o : Option ℕ) (p : ℕ → Bool) (limit : ℕ) → find p (range_with_len 1 limit) ≡ o → (p (unwrap_or o limit) ≡ true) ⊎ (unwrap_or o limit ≡ limit)
reached_case None p limit is = inr refl
reached_case (Some e) p limit is = inl (find_found p 1 limit e is).passes

pub end_within : (m : Mixing) (g : Graph) (limit : ℕ) → 1 ≤ limit → (1 ≤ end_of m g limit) × (end_of m g limit ≤ limit)
unfolding end_of
end_within m g limit some = within_case _ (λ t. not (any_changed m g t)) limit refl some

pub end_least : (m : Mixing) (g : Graph) (limit t : ℕ) → 1 ≤ t → t < end_of m g limit → any_changed m g t ≡ true
unfolding end_of
end_least m g limit t low lt = not-false (any_changed m g t) (least_case _ (λ t. not (any_changed m g t)) limit t refl low lt)

pub end_reached : (m : Mixing) (g : Graph) (limit : ℕ) → (any_changed m g (end_of m g limit) ≡ false) ⊎ (end_of m g limit ≡ limit)
unfolding end_of
end_reached m g limit =
    elim (reached_case _ (λ t. not (any_changed m g t)) limit refl) [
      | inl still ↦ inl (not-true _ still)
      | inr at ↦ inr at
    ]
