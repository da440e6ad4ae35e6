-- Figures that are stepped block by block.
use Rattle.std.proofs.Common.{◌≡◌, ℕ, ◌+◌, ◌-◌, ◌<◌, ◌≤◌, Bool, false, List, [], ◌++◌, map, length, get_or, refl, ap, sym, ◌∙◌, arith, subst, inl, inr}
use Rattle.std.proofs.lemmas.List.{get_or-append-add}
use Rattle.std.proofs.lemmas.List.Sums.{sum_by-append}
use Rattle.replica.proofs.Names.{cases_lt, get_or-append_right, get_or_append_left, get_or-map, length-append, length-map, map-append, weight_of, Measure, TallyValue, Tally, estimate_with, value_of, Table, no_figures}
use Rattle.replica.specs.Level.{next_tally}
use Rattle.replica.specs.Stepping.{CanStepBlock, StepsBlock}
use Rattle.replica.specs.Tables.{AreStepped, CanBeStepped}
use Rattle.replica.proofs.LevelLemmas.Step.{all_stepped}
use Rattle.replica.proofs.LevelLemmas.Weight.{weights_are, weights_count}

-- ---- two halves
pub in_last : {X : Type 0} (xs ys zs : List X) (m k : ℕ) (d : X) → xs ≡ ys ++ zs → length ys ≡ m → get_or xs (m + k) d ≡ get_or zs k d
in_last xs ys zs m k d all long = ap (λ l. get_or l (m + k) d) all ∙ ap (λ j. get_or (ys ++ zs) (j + k) d) (sym long) ∙ get_or-append-add ys zs k d

pub in_first : {X : Type 0} (xs ys zs : List X) (k : ℕ) (d : X) → xs ≡ ys ++ zs → k < length ys → get_or xs k d ≡ get_or ys k d
in_first xs ys zs k d all lt = ap (λ l. get_or l k d) all ∙ get_or_append_left ys zs d k lt

pub first_can_step : (m : Measure) (t : ℕ) (old new : Table) (from : ℕ) (marks first last : List Bool) (own front back : List ℕ) (tallies low high : List TallyValue) → CanStepBlock m t old new from marks own tallies →
    marks ≡ first ++ last → own ≡ front ++ back → tallies ≡ low ++ high → length front ≡ length first → length low ≡ length first → CanStepBlock m t old new from first front low
first_can_step m t old new from marks first last own front back tallies low high can split weights figures wide long =
    let size : length marks ≡ length first + length last = ap length split ∙ length-append first last in
    let inside : (k : ℕ) → k < length first → k < length marks = λ k lt. omega (arith, size, lt) in
    record {
      low = can.low;
      high = can.high;
      rows = can.rows;
      ahead = can.ahead;
      count = can.count;
      inside = omega (arith, can.inside, size);
      each = wide;
      all = long;
      weights = λ k lt. sym (in_first own front back k 0 weights (omega (arith, wide, lt))) ∙ can.weights k (inside k lt);
      grown = λ k lt. rw (sym (in_first tallies low high k no_figures figures (omega (arith, long, lt)))) (can.grown k (inside k lt));
      same = λ k lt off. can.same k (inside k lt) (in_first marks first last k false split lt ∙ off);
      lasts = λ k lt off.
          ap (λ (v : TallyValue). v.last) (sym (in_first tallies low high k no_figures figures (omega (arith, long, lt)))) ∙ can.lasts k (inside k lt) (in_first marks first last k false split lt ∙ off);
    }

pub last_can_step : (m : Measure) (t : ℕ) (old new : Table) (from up : ℕ) (marks first last : List Bool) (own front back : List ℕ) (tallies low high : List TallyValue) → CanStepBlock m t old new from marks own tallies →
    marks ≡ first ++ last → own ≡ front ++ back → tallies ≡ low ++ high → length front ≡ length first → length low ≡ length first → up ≡ from + length first → CanStepBlock m t old new up last back high
last_can_step m t old new from up marks first last own front back tallies low high can split weights figures wide long next =
    let n = length first in
    let size : length marks ≡ n + length last = ap length split ∙ length-append first last in
    let place : (k : ℕ) → from + (n + k) ≡ up + k = λ k. omega (arith, next) in
    let inside : (k : ℕ) → k < length last → n + k < length marks = λ k lt. omega (arith, size, lt) in
    record {
      low = can.low;
      high = can.high;
      rows = can.rows;
      ahead = can.ahead;
      count = can.count;
      inside = omega (arith, can.inside, size, next);
      each = omega (arith, ap length weights ∙ length-append front back, can.each, size, wide);
      all = omega (arith, ap length figures ∙ length-append low high, can.all, size, long);
      weights = λ k lt. sym (in_last own front back n k 0 weights wide) ∙ can.weights (n + k) (inside k lt) ∙ ap (λ j. weight_of (get_or old.rows j [])) (place k);
      grown = λ k lt. subst (λ j. (get_or high k no_figures).last ≤ estimate_with m (get_or new.rows j [])) (place k) (rw (sym (in_last tallies low high n k no_figures figures long)) (can.grown (n + k) (inside k lt)));
      same = λ k lt off. subst (λ j. get_or old.rows j [] ≡ get_or new.rows j []) (place k) (can.same (n + k) (inside k lt) (in_last marks first last n k false split refl ∙ off));
      lasts = λ k lt off.
          ap (λ (v : TallyValue). v.last) (sym (in_last tallies low high n k no_figures figures long)) ∙ can.lasts (n + k) (inside k lt) (in_last marks first last n k false split refl ∙ off)
          ∙ ap (λ j. estimate_with m (get_or new.rows j [])) (place k);
    }

pub steps_both : (m : Measure) (t : ℕ) (new : Table) (from up : ℕ) (low high one two : List TallyValue) (front back : List ℕ) (g h : ℕ) → up ≡ from + length low → length front ≡ length low →
    StepsBlock m t new from low one front g → StepsBlock m t new up high two back h → StepsBlock m t new from (low ++ high) (one ++ two) (front ++ back) (g + h)
steps_both m t new from up low high one two front back g h next wide left right =
    let n = length low in
    let place : (k : ℕ) → n ≤ k → up + (k - n) ≡ from + k = λ k above. omega (arith, next, above) in
    record {
      count = omega (arith, length-append low high, length-append one two, left.count, right.count);
      figures = λ k lt.
          elim (cases_lt k n) [
            | inl below ↦ rw (get_or_append_left one two no_figures k (omega (arith, left.count, below)), get_or_append_left low high no_figures k below) (left.figures k below)
            | inr above ↦
                rw (get_or-append_right one two n k no_figures left.count above, get_or-append_right low high n k no_figures refl above)
                (right.figures (k - n) (omega (arith, length-append low high, lt, above)) ∙ ap (λ j. next_tally t (get_or high (k - n) no_figures) (estimate_with m (get_or new.rows j []))) (place k above))
          ];
      weights = λ k lt.
          elim (cases_lt k n) [
            | inl below ↦ rw (get_or_append_left front back 0 k (omega (arith, wide, below))) (left.weights k below)
            | inr above ↦ rw (get_or-append_right front back n k 0 wide above) (right.weights (k - n) (omega (arith, length-append low high, lt, above)) ∙ ap (λ j. weight_of (get_or new.rows j [])) (place k above))
          ];
      gain = omega (arith, left.gain, right.gain, sum_by-append (λ (tally : TallyValue). tally.last) low high, sum_by-append (λ (tally : TallyValue). tally.last) one two);
      small = omega (arith, left.small, right.small, length-append low high);
    }

pub halves_stepped : (m : Measure) (t : ℕ) (new : Table) (from up : ℕ) (tallies low high one two : List Tally) (front back : List ℕ) (g h : ℕ) → tallies ≡ low ++ high → up ≡ from + length low → length front ≡ length low →
    StepsBlock m t new from (map value_of low) (map value_of one) front g → StepsBlock m t new up (map value_of high) (map value_of two) back h → StepsBlock m t new from (map value_of tallies) (map value_of (one ++ two)) (front ++ back) (g + h)
halves_stepped m t new from up tallies low high one two front back g h all next wide left right =
    rw (all, map-append value_of low high, map-append value_of one two)
    (steps_both m t new from up (map value_of low) (map value_of high) (map value_of one) (map value_of two) front back g h (next ∙ ap (λ n. from + n) (sym (length-map low value_of))) (wide ∙ sym (length-map low value_of)) left right)

-- ---- all rows
pub can_step_all : (m : Measure) (t : ℕ) (old new : Table) (marks : List Bool) (own : List ℕ) (tallies : List TallyValue) → CanBeStepped m t old new marks own tallies → CanStepBlock m t old new 0 marks own tallies
can_step_all m t old new marks own tallies can =
    let zero_at : (k : ℕ) → k ≡ 0 + k = λ k. omega arith in
    record {
      low = can.from;
      high = can.to;
      rows = can.rows;
      ahead = can.ahead;
      count = can.differ.count;
      inside = omega (arith, can.differ.marked, can.differ.count);
      each = omega (arith, weights_count old.rows own can.weights, can.differ.marked);
      all = omega (arith, can.count, can.differ.marked, can.differ.count);
      weights = λ k lt. ap (λ l. get_or l k 0) can.weights ∙ get_or-map weight_of old.rows k [] 0 (omega (arith, can.differ.marked, lt)) ∙ ap (λ j. weight_of (get_or old.rows j [])) (zero_at k);
      grown = λ k lt. subst (λ j. (get_or tallies k no_figures).last ≤ estimate_with m (get_or new.rows j [])) (zero_at k) (can.lasts.grown k (omega (arith, can.differ.marked, can.differ.count, lt)));
      same = λ k lt off. subst (λ j. get_or old.rows j [] ≡ get_or new.rows j []) (zero_at k) (can.differ.same k (omega (arith, can.differ.marked, lt)) off);
      lasts = λ k lt off. can.lasts.same k (omega (arith, can.differ.marked, can.differ.count, lt)) off ∙ ap (λ j. estimate_with m (get_or new.rows j [])) (zero_at k);
    }

pub all_are_stepped : (m : Measure) (t : ℕ) (new shown : Table) (before after : List TallyValue) (own : List ℕ) (gained : ℕ) → length before ≡ length new.rows → length own ≡ length new.rows → shown ≡ new → StepsBlock m t new 0 before after own gained → AreStepped m t new before after own gained shown
all_are_stepped m t new shown before after own gained count each taken steps =
    let at_zero : (k : ℕ) → 0 + k ≡ k = λ k. omega arith in
    record {
      tallies = all_stepped m t new.rows before after (length new.rows) (steps.count ∙ count)
          (λ k lt. steps.figures k (omega (arith, count, lt)) ∙ ap (λ j. next_tally t (get_or before k no_figures) (estimate_with m (get_or new.rows j []))) (at_zero k));
      weights = weights_are new.rows own each (λ k lt. steps.weights k (omega (arith, count, lt)) ∙ ap (λ j. weight_of (get_or new.rows j [])) (at_zero k));
      gain = steps.gain;
      rows = taken;
    }
