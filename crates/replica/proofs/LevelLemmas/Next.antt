-- Figures and sums one superstep later keep their limits, whatever the batches say.
use Rattle.std.proofs.Common.{◌≡◌, ℕ, suc, ◌^◌, ◌≤◌, ◌*◌, ◌<◌, Bool, false, not, List, [], ◌∷◌, length, map, get_or, refl, ap, arith, sym, ◌∙◌}
use Rattle.replica.proofs.Names.{sum_by, range_with_len, sum, length-map, same_lists, get_or-map, length-map-range_with_len, get_or-map-range_with_len, TallyValue, Measure, estimate_with, no_figures, value_of, bytes_eq, sum_by-cons, sum-map, Tally}
use Rattle.ball_model.specs.Laws.{IsCounterRow}
use Rattle.ball_model.proofs.EstimateLemmas.{estimate_fits}
use Rattle.replica.specs.Level.{differences, next_tally, next_tallies, total_of}
use Rattle.replica.specs.Kept.{AreLasts, AreCounters, AllRise}
use Rattle.replica.proofs.KeptLemmas.Rise.{rise_estimate, same_registers}

-- where the last estimates are those of the rows, there are as many figures
pub lasts_count : (m : Measure) (rows : List (List ℕ)) (tallies : List TallyValue) → map (λ t. t.last) tallies ≡ map (estimate_with m) rows → length tallies ≡ length rows
lasts_count m rows tallies same = sym (length-map tallies (λ (t : TallyValue). t.last)) ∙ ap length same ∙ length-map rows (estimate_with m)

pub last_at : (m : Measure) (rows : List (List ℕ)) (tallies : List TallyValue) (i : ℕ) → map (λ t. t.last) tallies ≡ map (estimate_with m) rows → i < length rows → (get_or tallies i no_figures).last ≡ estimate_with m (get_or rows i [])
last_at m rows tallies i same lt =
    sym (get_or-map (λ (t : TallyValue). t.last) tallies i no_figures 0 (omega (arith, lasts_count m rows tallies same))) ∙ ap (λ (l : List ℕ). get_or l i 0) same ∙ get_or-map (estimate_with m) rows i [] 0 lt

-- what the step of the figures asks for
pub next_lasts : (m : Measure) (old new : List (List ℕ)) (tallies : List TallyValue) (n : ℕ) → AreCounters m.log2m old → AllRise m.log2m old new → map (λ t. t.last) tallies ≡ map (estimate_with m) old → n ≡ length old →
    AreLasts m new (differences old new n) tallies
unfolding differences
next_lasts m old new tallies n are rise lasts size = record {
  grown = λ i lt. rw (last_at m old tallies i lasts (omega (arith, rise.count))) (rise_estimate m old new i are rise (omega (arith, rise.count)));
  same = λ i lt off.
      let F : ℕ → Bool = λ k. not (bytes_eq (get_or new k []) (get_or old k [])) in
      let at : get_or (map F (range_with_len 0 n)) i false ≡ F i = get_or-map-range_with_len F 0 n i i false (omega (arith, size, rise.count)) (omega arith) in
      last_at m old tallies i lasts (omega (arith, rise.count)) ∙ ap (estimate_with m) (sym (same_registers (get_or new i []) (get_or old i []) (sym at ∙ off)));
}

-- the last estimates are those of the rows
pub stepped_lasts : (m : Measure) (t : ℕ) (rows : List (List ℕ)) (old : List TallyValue) (n : ℕ) → n ≡ length rows → map (λ t. t.last) (next_tallies m t rows old n) ≡ map (estimate_with m) rows
unfolding next_tallies
stepped_lasts m t rows old n count =
    let F : ℕ → TallyValue = λ i. next_tally t (get_or old i no_figures) (estimate_with m (get_or rows i [])) in
    let last : TallyValue → ℕ = λ t. t.last in
    let long = length-map-range_with_len F 0 n in
    same_lists (map last (map F (range_with_len 0 n))) (map (estimate_with m) rows) (length-map (map F (range_with_len 0 n)) last ∙ long ∙ count ∙ sym (length-map rows (estimate_with m)))
    (λ k d lt.
    let inside : k < n = omega (arith, length-map (map F (range_with_len 0 n)) last, long) in
    get_or-map last (map F (range_with_len 0 n)) k no_figures d (omega arith)
    ∙ ap last (get_or-map-range_with_len F 0 n k k no_figures inside (omega arith))
    ∙ sym (get_or-map (estimate_with m) rows k [] d (omega arith)))

pub sum_same : {A B : Type 0} (f : A → ℕ) (g : B → ℕ) (xs : List A) (ys : List B) → map f xs ≡ map g ys → sum_by f xs ≡ sum_by g ys
sum_same f g xs ys e = sym (sum-map f xs) ∙ ap sum e ∙ sum-map g ys

pub map_lasts : (ts : List Tally) → map (λ tally. tally.last) ts ≡ map (λ (v : TallyValue). v.last) (map value_of ts)
map_lasts [] = refl
map_lasts (t ∷ ts) = ap (λ (l : List ℕ). t.last ∷ l) (map_lasts ts)

-- the sum of the last estimates is that of the rows
pub total_of-lasts : (m : Measure) (rows : List (List ℕ)) (ts : List Tally) → map (λ (v : TallyValue). v.last) (map value_of ts) ≡ map (estimate_with m) rows → sum_by (λ tally. tally.last) ts ≡ total_of m rows
unfolding total_of
total_of-lasts m rows ts same = sum_same (λ (tally : Tally). tally.last) (estimate_with m) ts rows (map_lasts ts ∙ same)

-- the sum of the estimates of rows
pub total_small : (m : Measure) (rows : List (List ℕ)) → ((i : ℕ) → i < length rows → IsCounterRow m.log2m (get_or rows i [])) → total_of m rows ≤ 2 ^ 63 * length rows
unfolding total_of
total_small m [] are = omega arith
total_small m (row ∷ rows) are =
    let here = estimate_fits m.corrected m.log2m row (are 0 (omega arith)) in
    let rest = total_small m rows (λ i lt. are (suc i) (omega arith)) in
    omega (arith, here, rest, sum_by-cons (estimate_with m) row rows)

pub stepped_as : {m m' : Measure} {t t' : ℕ} {rows rows' : List (List ℕ)} {old old' : List TallyValue} {n n' : ℕ} → m ≡ m' → t ≡ t' → rows ≡ rows' → old ≡ old' → n ≡ n' → next_tallies m t rows old n ≡ next_tallies m' t' rows' old' n'
stepped_as p q r s e = rw (p, q, r, s, e) refl
