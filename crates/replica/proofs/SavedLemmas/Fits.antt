-- What fits a part, one piece after the other.
use Rattle.std.proofs.Common.{◌≡◌, ℕ, zero, suc, ◌+◌, ◌-◌, ◌<◌, ◌≤◌, Bool, false, List, [], ◌∷◌, length, map, get_or, ap, ◌∙◌, arith}
use Rattle.replica.proofs.Names.{All, get_or_default, get_or-map, get_or_past, value_of, BatchValue, PlanValue, Tally}
use Rattle.replica.specs.Kept.{AreSources}
use Rattle.replica.specs.Saved.{IsFigures, MayKeep, order_key}

-- ---- figures

-- a run can have the figures of any tallies
pub figures_kept : (tallies : List Tally) → All IsFigures (map value_of tallies)
figures_kept [] k d lt = absurd (omega (arith, lt))
figures_kept (tally ∷ rest) zero d lt = record { harm = tally.harm_small; dist = tally.dist_small }
figures_kept (tally ∷ rest) (suc k) d lt = figures_kept rest k d (omega (arith, lt))

-- ---- sources

pub sources_are : (parts own : ℕ) (heard : List Bool) → length heard ≡ 64 → ((q : ℕ) → parts ≤ q → q < 64 → get_or heard q false ≡ false) → get_or heard own false ≡ false → AreSources parts own heard
sources_are parts own heard long none off = grind (arith, get_or_past)

-- ---- batches of later supersteps

abbrev key_at : List BatchValue → ℕ → ℕ
key_at batches k = get_or (map order_key batches) k 0

-- the first n batches may be kept, and the next one comes from this place on
pub record KeptSoFar (plan : PlanValue) (p t n next : ℕ) (batches : List BatchValue) : Type 0 where
  pub each : (k : ℕ) (d : BatchValue) → k < n → MayKeep plan p t (get_or batches k d)
  pub ascending : (i j : ℕ) → i < j → j < n → get_or (map order_key batches) i 0 < get_or (map order_key batches) j 0
  pub below : (k : ℕ) → k < n → get_or (map order_key batches) k 0 < next
  pub last : 0 < n → get_or (map order_key batches) (n - 1) 0 + 1 ≡ next
  pub first : n ≡ 0 → next ≡ 0

pub key_is : (batches : List BatchValue) (n : ℕ) (b : BatchValue) → n < length batches → get_or batches n b ≡ b → key_at batches n ≡ order_key b
key_is batches n b lt at = get_or-map order_key batches n b 0 lt ∙ ap order_key at

pub kept_more : (plan : PlanValue) (p t n next : ℕ) (batches : List BatchValue) (b : BatchValue) → n < length batches → get_or batches n b ≡ b → next ≤ order_key b → MayKeep plan p t b → KeptSoFar plan p t n next batches → KeptSoFar plan p t (n + 1) (order_key b + 1) batches
kept_more plan p t n next batches b lt at le may so = grind (arith, key_is, get_or_default)
