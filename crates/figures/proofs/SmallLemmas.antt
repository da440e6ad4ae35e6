-- The table of what small sets are estimated at.
use Rattle.std.proofs.Common.{◌≡◌, ℕ, ◌+◌, ◌*◌, ◌/◌, ◌<◌, ◌≤◌, ◌≢◌, List, length, get_or, map, min, set, ap, sym, subst, arith, inl, inr, ◌∙◌}
use Rattle.std.specs.List.{range_with_len}
use Rattle.std.proofs.lemmas.Bool.{cases_lt}
use Rattle.std.proofs.lemmas.List.{ext_get_or, get_or-set_same, get_or-set_other, length-set}
use Rattle.std.proofs.lemmas.List.FromFn.{length-map-range_with_len, get_or-map-range_with_len}
use Rattle.std.proofs.Math.Nat.{div-le_self, zero-min}
use Rattle.ball_model.specs.Figures.{draws_of, small_bound}
use Rattle.ball_model.proofs.EstimateLemmas.{draws_more, draws_none}
use Rattle.figures.specs.Values.{small_table}

-- what the table has at z
abbrev pub small_at : ℕ → ℕ → ℕ
small_at m z = min (draws_of m z) (small_bound m)

-- the places from z on are filled in, of m registers
pub record AreFilled (m z draws : ℕ) (small : List ℕ) : Type 0 where
  pub draws_is : draws ≡ draws_of m z
  pub count : length small ≡ m + 1
  pub done : (k : ℕ) → z ≤ k → k ≤ m → get_or small k 0 ≡ small_at m k

-- all places are left
pub filled_first : (m : ℕ) (small : List ℕ) → length small ≡ m + 1 → ((k : ℕ) → k ≤ m → get_or small k 0 ≡ 0) → AreFilled m m 0 small
filled_first m small count none = record {
  draws_is = sym (draws_none m);
  count = count;
  done = λ k low high. let at : k ≡ m = omega arith in none k high ∙ sym (ap (λ d. min d (small_bound m)) (ap (draws_of m) at ∙ draws_none m) ∙ zero-min (small_bound m));
}

-- one place more is taken
pub filled_next : (m z draws gain value : ℕ) (small : List ℕ) → z < m → AreFilled m (z + 1) draws small → gain ≡ draws + 1000000 * m / (z + 1) → value ≡ min gain (small_bound m) →
    AreFilled m z gain (set small z value)
filled_next m z draws gain value small lt h gained is =
    let now : gain ≡ draws_of m z = omega (arith, gained, h.draws_is, draws_more m z lt) in
    record {
      draws_is = now;
      count = length-set small z value ∙ h.count;
      done = λ k low high.
          elim (cases_lt z k) [
            | inl above ↦
                let other : k ≢ z = omega arith in
                get_or-set_other small z k value 0 other ∙ h.done k (omega arith) high
            | inr same ↦
                let at : z ≡ k = omega arith in
                subst (λ j. get_or (set small z value) j 0 ≡ small_at m j) at
                (get_or-set_same small z value 0 (omega (arith, h.count)) ∙ is ∙ ap (λ g. min g (small_bound m)) now)
          ];
    }

-- none is left
pub filled_last : (m draws : ℕ) (small : List ℕ) → AreFilled m 0 draws small → small ≡ small_table m
unfolding small_table
filled_last m draws small h =
    ext_get_or 0 small (map (small_at m) (range_with_len 0 (m + 1))) (h.count ∙ sym (length-map-range_with_len (small_at m) 0 (m + 1)))
    (λ i lt. h.done i (omega arith) (omega (arith, h.count)) ∙ sym (get_or-map-range_with_len (small_at m) 0 (m + 1) i i 0 (omega (arith, h.count)) (omega arith)))

-- a wait is at most that for the last place
pub wait_small : (m k : ℕ) → m ≤ 1024 → 1000000 * m / k ≤ 1024000000
wait_small m k few = omega (arith, div-le_self (1000000 * m) k)

-- what the table has for a number of zeros
pub small_is : (m z : ℕ) (small : List ℕ) → small ≡ small_table m → z ≤ m → (length small ≡ m + 1) × (get_or small z 0 ≡ small_at m z)
unfolding small_table
small_is m z small is le = (
  ap length is ∙ length-map-range_with_len (small_at m) 0 (m + 1),
  ap (λ l. get_or l z 0) is ∙ get_or-map-range_with_len (small_at m) 0 (m + 1) z z 0 (omega arith) (omega arith),
)
