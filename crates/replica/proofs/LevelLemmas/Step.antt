-- Figures stepped one after the other.
use Rattle.std.proofs.Common.{◌≡◌, ℕ, ◌+◌, ◌<◌, ◌≤◌, ◌≢◌, List, [], length, map, get_or, set, arith, ◌∙◌}
use Rattle.replica.proofs.Names.{range_with_len, get_or-set_same, get_or-set_other, same_lists, get_or_default, get_or-map-range_with_len, length-map-range_with_len, TallyValue, Measure, estimate_with, no_figures}
use Rattle.replica.specs.Level.{next_tally, next_tallies}

-- a list that is written at place i: what holds below and at i
pub step_done : {X : Type 0} (F : ℕ → X) (xs : List X) (d y : X) (i : ℕ) → i < length xs → y ≡ F i → ((k : ℕ) → k < i → get_or xs k d ≡ F k) → (k : ℕ) → k < i + 1 → get_or (set xs i y) k d ≡ F k
step_done F xs d y i lt is done k below = grind (arith, get_or-set_other, get_or-set_same)

-- and above it
pub step_rest : {X : Type 0} (F : ℕ → X) (xs : List X) (d y : X) (i : ℕ) → ((k : ℕ) → i ≤ k → get_or xs k d ≡ F k) → (k : ℕ) → i + 1 ≤ k → get_or (set xs i y) k d ≡ F k
step_rest F xs d y i rest k low = let ne : k ≢ i = omega arith in get_or-set_other xs i k y d ne ∙ rest k (omega arith)

-- a list that is a function of its places
pub list_is : {X : Type 0} (F : ℕ → X) (xs : List X) (d : X) (n : ℕ) → length xs ≡ n → ((k : ℕ) → k < n → get_or xs k d ≡ F k) → xs ≡ map F (range_with_len 0 n)
list_is F xs d n count done =
    grind (arith, length-map-range_with_len, same_lists, get_or_default, get_or-map-range_with_len)

pub stepped_same : (t : ℕ) {a b : TallyValue} {e f : ℕ} → a ≡ b → e ≡ f → next_tally t a e ≡ next_tally t b f
stepped_same t same estimate = cc

-- all figures are stepped
pub all_stepped : (m : Measure) (t : ℕ) (rows : List (List ℕ)) (old new : List TallyValue) (n : ℕ) → length new ≡ n → ((k : ℕ) → k < n → get_or new k no_figures ≡ next_tally t (get_or old k no_figures) (estimate_with m (get_or rows k []))) →
    new ≡ next_tallies m t rows old n
unfolding next_tallies
all_stepped m t rows old new n count done = list_is (λ i. next_tally t (get_or old i no_figures) (estimate_with m (get_or rows i []))) new no_figures n count done
