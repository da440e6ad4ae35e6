-- Weights that are moved by the pieces that differ.
use Rattle.std.proofs.Common.{◌≡◌, ◌≢◌, ℕ, zero, suc, ◌+◌, ◌-◌, ◌*◌, ◌/◌, ◌%◌, ◌<◌, ◌≤◌, Bool, true, false, List, length, get_or, slice_set, ap, subst, refl, ◌∙◌, inl, inr, arith}
use mir.Val.{bool_byte}
use Rattle.std.specs.Simd.Lanes.{chunk}
use Rattle.std.proofs.lemmas.Bool.{cases_lt}
use Rattle.std.proofs.lemmas.List.{get_or-set_other, length-set, take_all}
use Rattle.std.proofs.lemmas.Grind.{get_or-set_at}
use Rattle.figures.specs.Values.{weight_of, PiecesDifferAt}
use Rattle.figures.proofs.SumLemmas.{piece_more, so_far}

-- a weight that is moved as far as these many pieces
abbrev pub MovedTo : ℕ → ℕ → ℕ → List ℕ → List ℕ → Type 0
MovedTo weight moved k old new = moved + so_far old (k * 32) ≡ weight + so_far new (k * 32)

-- a piece more
pub moved_more : (weight moved next k : ℕ) (old new : List ℕ) → MovedTo weight moved k old new
    → next + weight_of (chunk (k * 32) 32 old) ≡ moved + weight_of (chunk (k * 32) 32 new) → MovedTo weight next (k + 1) old new
moved_more weight moved next k old new before here =
    let i = k * 32 in
    let at : (k + 1) * 32 ≡ i + 32 = omega arith in
    let old_at = ap (so_far old) at in
    let new_at = ap (so_far new) at in
    omega (arith, before, here, piece_more old i, piece_more new i, old_at, new_at)

-- pieces that are the same
pub same_more : (n weight moved k : ℕ) (old new : List ℕ) → MovedTo weight moved k old new
    → ((q : ℕ) → k ≤ q → q < k + n → chunk (q * 32) 32 old ≡ chunk (q * 32) 32 new) → MovedTo weight moved (k + n) old new
same_more zero weight moved k old new before same = let e : k + 0 ≡ k = omega arith in rw e before
same_more (suc n) weight moved k old new before same =
    let first = ap weight_of (same k (omega arith) (omega arith)) in
    let one = moved_more weight moved moved k old new before (omega (arith, first)) in
    let rest = same_more n weight moved (k + 1) old new one (λ q low high. same q (omega arith) (omega arith)) in
    let e : k + 1 + n ≡ k + suc n = omega arith in
    subst (λ (m : ℕ). MovedTo weight moved m old new) e rest

-- the places before the j-th are below k, and the others are not
pub record SplitsPlaces (places : List ℕ) (count j k : ℕ) : Type 0 where
  pub below : (i : ℕ) → i < j → get_or places i 0 < k
  pub above : (i : ℕ) → j ≤ i → i < count → k ≤ get_or places i 0

-- a weight that is moved by the pieces at the first j places: as far as any number of pieces that splits these from the
-- others
pub record IsMoved (weight moved : ℕ) (places : List ℕ) (count j : ℕ) (old new : List ℕ) : Type 0 where
  pub to : (k : ℕ) → k ≤ length old / 32 → SplitsPlaces places count j k → MovedTo weight moved k old new

-- by none
pub moved_by_none : (weight count : ℕ) (places old new : List ℕ) → PiecesDifferAt places count (length old / 32) old new → IsMoved weight weight places count 0 old new
moved_by_none weight count places old new differ = record {
  to = λ k within split.
      let none : MovedTo weight weight 0 old new = refl in
      let all = same_more k weight weight 0 old new none (λ q low high.
      differ.same q (omega arith) (λ j lt is. omega (arith, is, split.above j (omega arith) lt))) in
      let e : 0 + k ≡ k = omega arith in
      subst (λ (m : ℕ). MovedTo weight weight m old new) e all;
}

-- the places rise
risen : (places : List ℕ) (count pieces i j : ℕ) (old new : List ℕ) → PiecesDifferAt places count pieces old new → i ≤ j → j < count → get_or places i 0 ≤ get_or places j 0
risen places count pieces i j old new differ from few = elim (cases_lt i j) [
  | inl before ↦ omega (arith, differ.rising i j before few)
  | inr after ↦ let here : i ≡ j = omega arith in omega (arith, ap (λ n. get_or places n 0) here)
]

-- each place splits those before from the others
split_at_place : (places : List ℕ) (count pieces j : ℕ) (old new : List ℕ) → PiecesDifferAt places count pieces old new → j < count → SplitsPlaces places count j (get_or places j 0)
split_at_place places count pieces j old new differ lt = record {
  below = λ i before. differ.rising i j before lt;
  above = λ i from few. risen places count pieces j i old new differ from few;
}

pub moved_at : (weight moved count j : ℕ) (places old new : List ℕ) → PiecesDifferAt places count (length old / 32) old new → IsMoved weight moved places count j old new → j < count
    → MovedTo weight moved (get_or places j 0) old new
moved_at weight moved count j places old new differ before lt =
    before.to (get_or places j 0) (omega (arith, differ.within j lt)) (split_at_place places count (length old / 32) j old new differ lt)

-- as far as the next place
other : (places : List ℕ) (count pieces j k q i : ℕ) (old new : List ℕ) → PiecesDifferAt places count pieces old new → j < count → SplitsPlaces places count (j + 1) k
    → get_or places j 0 < q → q < k → i < count → get_or places i 0 ≢ q
other places count pieces j k q i old new differ lt split low high few is = elim (cases_lt j i) [
  | inl after ↦ omega (arith, is, split.above i (omega arith) few)
  | inr upto ↦ omega (arith, is, risen places count pieces i j old new differ upto lt)
]

after_place : (weight next count j k : ℕ) (places old new : List ℕ) → PiecesDifferAt places count (length old / 32) old new → j < count → k ≤ length old / 32
    → SplitsPlaces places count (j + 1) k → MovedTo weight next (get_or places j 0 + 1) old new → MovedTo weight next k old new
after_place weight next count j k places old new differ lt within split one =
    let place = get_or places j 0 in
    let past : place < k = split.below j (omega arith) in
    let e : place + 1 + (k - (place + 1)) ≡ k = omega arith in
    let all = same_more (k - (place + 1)) weight next (place + 1) old new one (λ q low high.
    differ.same q (omega arith) (λ i few. other places count (length old / 32) j k q i old new differ lt split (omega arith) (omega arith) few)) in
    subst (λ (m : ℕ). MovedTo weight next m old new) e all

-- by one more
pub moved_by_one : (weight moved next count j : ℕ) (places old new : List ℕ) → PiecesDifferAt places count (length old / 32) old new → IsMoved weight moved places count j old new → j < count
    → next + weight_of (chunk (get_or places j 0 * 32) 32 old) ≡ moved + weight_of (chunk (get_or places j 0 * 32) 32 new)
    → IsMoved weight next places count (j + 1) old new
moved_by_one weight moved next count j places old new differ before lt here =
    let place = get_or places j 0 in
    let one = moved_more weight moved next place old new (moved_at weight moved count j places old new differ before lt) here in
    record { to = λ k within split. after_place weight next count j k places old new differ lt within split one }

-- by all
pub moved_by_all : (weight moved count j : ℕ) (places old new : List ℕ) → PiecesDifferAt places count (length old / 32) old new → IsMoved weight moved places count j old new → j ≡ count
    → weight ≡ weight_of old → length new ≡ length old → length old % 32 ≡ 0 → moved ≡ weight_of new
moved_by_all weight moved count j places old new differ all is before same pieces =
    let end = all.to (length old / 32) (omega arith) (record { below = λ i lt. differ.within i (omega (arith, lt, is)); above = λ i from few. absurd (omega (arith, is, from, few)) }) in
    let old_all = ap weight_of (take_all (length old / 32 * 32) old (omega (arith, pieces))) in
    let new_all = ap weight_of (take_all (length old / 32 * 32) new (omega (arith, pieces, same))) in
    omega (arith, end, before, old_all, new_all)

-- what is added to the number of places
pub bit_few : (b : Bool) → bool_byte b ≤ 1
bit_few true = omega arith
bit_few false = omega arith

pub bit_none : (b : Bool) → bool_byte b ≡ 0 → b ≡ false
bit_none true is = absurd (omega (arith, is))
bit_none false is = refl

-- one place more, which stays where the pieces may differ
pub differ_more : (places : List ℕ) (count next k : ℕ) (old new : List ℕ) → PiecesDifferAt places count k old new → count < length places → count ≤ next → next ≤ count + 1
    → (next ≡ count → chunk (k * 32) 32 old ≡ chunk (k * 32) 32 new) → PiecesDifferAt (slice_set places count k) next (k + 1) old new
differ_more places count next k old new differ room from upto here = record {
  few = omega (arith, length-set places count k);
  within = λ j lt. elim (cases_lt j count) [
    | inl before ↦ omega (arith, differ.within j before, kept places count k j before)
    | inr after ↦ omega (arith, get_or-set_at places count j k 0 (omega arith) room)
  ];
  rising = λ i j before lt. elim (cases_lt j count) [
    | inl kept_too ↦ omega (arith, differ.rising i j before kept_too, kept places count k i (omega arith), kept places count k j kept_too)
    | inr last ↦ omega (arith, differ.within i (omega arith), kept places count k i (omega arith), get_or-set_at places count j k 0 (omega arith) room)
  ];
  same = λ q lt none. elim (cases_lt q k) [
    | inl before ↦ differ.same q before (λ j few is. none j (omega arith) (kept places count k j few ∙ is))
    | inr last ↦ elim (cases_lt count next) [
      | inl stays ↦ absurd (none count stays (get_or-set_at places count count k 0 refl room ∙ omega arith))
      | inr goes ↦
          let is : k ≡ q = omega arith in
          subst (λ (m : ℕ). chunk (m * 32) 32 old ≡ chunk (m * 32) 32 new) is (here (omega arith))
    ]
  ];
}
  where
    kept : (places : List ℕ) (count k j : ℕ) → j < count → get_or (slice_set places count k) j 0 ≡ get_or places j 0
    kept places count k j lt = get_or-set_other places count j k 0 (λ is. omega (arith, is, lt))
