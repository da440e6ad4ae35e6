-- What a tally of the program says, as the definitions say it, and the figures that are made of it.
use Rattle.std.specs.Prelude.{◌≡◌, ℕ, ◌+◌, ◌-◌, ◌*◌, ◌/◌, ◌%◌, ◌^◌, ◌≤◌, ◌<◌, ◌≢◌, Bool, true, min, List, [], length, map, take, drop, slice_index, slice_index_or}
use Rattle.std.specs.List.{All, range_with_len, zip}
use Rattle.std.specs.Simd.Lanes.{chunk}
use Rattle.ball_model.specs.Figures.{TallyValue, tally_of, closeness_of, lin_of, empty_of, estimate_of, inverse_sum, draws_of, small_bound}
use Rattle.ball_model.specs.declared.plan.TheConstants.{MOST_REGISTERS}
use Rattle.figures.specs.declared.estimates.TheConstants.{EMPTY}
use Rattle.figures.specs.declared.tally.Tally.{Tally}
use Rattle.figures.specs.declared.ends.Figures.{Figures}

-- the three numbers of a tally
abbrev pub value_of : Tally → TallyValue
value_of tally = record { last = tally.last; harm = tally.harm; dist = tally.dist }

-- the tally has the figures at superstep t, of these estimates
abbrev pub IsTallyAt : (ℕ → ℕ) → ℕ → Tally → Type 0
IsTallyAt e t tally = value_of tally ≡ tally_of e t

-- what small sets of each number of empty registers are estimated at, of m registers
unfoldable pub small_table : ℕ → List ℕ
small_table m = map (λ z. min (draws_of m z) (small_bound m)) (range_with_len 0 (m + 1))

-- the weight of a counter, which its estimates are made of: the sum of 2^(33 - r) over its registers r, and EMPTY for
-- each that is 0
abbrev pub weight_of : List ℕ → ℕ
weight_of row = inverse_sum row + EMPTY * empty_of row

-- the weights of rows of at most 1024 registers
pub record AreWeighed (rows : List (List ℕ)) (weights : List ℕ) : Type 0 where
  pub each : weights ≡ map weight_of rows
  pub short : All (λ row. length row ≤ MOST_REGISTERS) rows

-- it may be the weight of a counter of 2^log2m registers
pub record IsWeight (log2m weight : ℕ) : Type 0 where
  pub least : 2 ^ log2m ≤ weight % EMPTY
  pub greatest : weight % EMPTY ≤ 2 ^ 43
  pub empty : weight / EMPTY ≤ 2 ^ log2m

-- of the pieces of 32 registers of two counters only those at the first `count` places, which ascend, may differ
pub record PiecesDifferAt (places : List ℕ) (count pieces : ℕ) (old new : List ℕ) : Type 0 where
  pub few : count ≤ length places
  pub within : (j : ℕ) → j < count → slice_index places j < pieces
  pub rising : (i j : ℕ) → i < j → j < count → slice_index places i < slice_index places j
  pub same : (k : ℕ) → k < pieces → ((j : ℕ) → j < count → slice_index places j ≢ k) →
      chunk (k * 32) 32 old ≡ chunk (k * 32) 32 new

-- the fields of an estimator: 16 to 1024 registers, and what small sets are estimated at if they are corrected
pub record IsEstimator (log2m : ℕ) (corrected : Bool) (small : List ℕ) : Type 0 where
  pub low : 4 ≤ log2m
  pub high : log2m ≤ 10
  pub table : corrected ≡ true → small ≡ small_table (2 ^ log2m)

-- the figures of a vertex, of the estimate of its ball, its row and its tally
abbrev pub figures_of : ℕ → List ℕ → TallyValue → Figures
figures_of e row tally = record {
  estimate = e;
  harmonic = tally.harm;
  closeness = closeness_of tally.dist;
  lin = lin_of e tally.dist;
  empty = empty_of row;
}

-- the figures of each vertex, of the row and the tally at its place, whose estimate they take
unfoldable pub figures_from : List (List ℕ) → List TallyValue → List Figures
figures_from rows tallies = map (λ p. figures_of p.1.last p.0 p.1) (zip rows tallies)

-- the figures of each vertex, with the raw estimate of its row, of 2^log2m registers
unfoldable pub raw_figures_from : ℕ → List (List ℕ) → List TallyValue → List Figures
raw_figures_from log2m rows tallies =
    map (λ p. figures_of (estimate_of log2m p.0) p.0 p.1) (zip rows tallies)

-- the items at the places from start on and before end, as far as there are such
abbrev pub items_between : {A : Type 0} → ℕ → ℕ → List A → List A
items_between start end items = take (end - start) (drop start items)

-- the figures are those of the estimate, the row and the tally at place i, where a tally that is not there is d
abbrev pub AreFiguresAt : ℕ → List (List ℕ) → List Tally → ℕ → Tally → Figures → Type 0
AreFiguresAt e rows tallies i d figures =
    figures ≡ figures_of e (slice_index_or rows i []) (value_of (slice_index_or tallies i d))

-- the figures are those of a row with this weight and of the tally, whose estimate they take
abbrev pub AreFiguresBy : ℕ → Tally → Figures → Type 0
AreFiguresBy weight tally figures = (row : List ℕ) → length row ≤ MOST_REGISTERS →
    weight ≡ weight_of row → figures ≡ figures_of tally.last row (value_of tally)
