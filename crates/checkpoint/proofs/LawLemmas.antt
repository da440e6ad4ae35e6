-- Two states of a part with one text are one.
use Rattle.std.proofs.Common.{◌≡◌, ℕ, zero, suc, ◌+◌, ◌-◌, ◌*◌, ◌/◌, ◌%◌, ◌^◌, ◌<◌, ◌≤◌, Bool, true, false, List, [], ◌∷◌, ◌++◌, length, get_or, take, drop, refl, ap, ap₂, sym, ◌∙◌, subst, arith, append_assoc, inl, inr, IfSome, replicate, if◌then◌else◌}
use Rattle.std.specs.Prelude.{Option, Some, None}
use Rattle.std.specs.List.{All, flat_map, range_with_len}
use Rattle.std.specs.Int.{w16, w32, w64, w128, to_be_bytes, from_be_bytes}
use Rattle.std.proofs.lemmas.Bool.{cases_lt}
use Rattle.std.proofs.lemmas.List.{get_or-map, length-append, same_lists, get_or_default, get_or_past}
use Rattle.std.proofs.lemmas.Option.{IfSome_then}
use Rattle.std.proofs.Math.Nat.{pow-suc}
use Rattle.std.proofs.lemmas.List.Elements.{All-append}
use Rattle.std.proofs.lemmas.List.Sums.{sum_by-le}
use Rattle.std.proofs.lemmas.Nat.{shr-shr, from_be_bytes-to_be_bytes_2, from_be_bytes-to_be_bytes_4, from_be_bytes-to_be_bytes_8, mul-le}
use Rattle.sha2.specs.Sha256.{sha256}
use Rattle.sha2.proofs.Facts256.{length-sha256}
use Rattle.ball_model.specs.Batches.{BatchValue, batch_bytes}
use Rattle.ball_model.specs.Checkpoint.{mask_of, mark_byte, no_figures, sealed, front_bytes, vertex_bytes, table_bytes, held_bytes, early_bytes, kept_batches, checkpoint_bytes, first_checkpoint_bytes, without_names}
use Rattle.ball_model.specs.Figures.{TallyValue, estimate_with}
use Rattle.ball_model.specs.Job.{PartValue}
use Rattle.ball_model.specs.Laws.{IsCounterRow}
use Rattle.ball_model.specs.PlanValue.{PlanValue, measure_of, most_vertices}
use Rattle.ball_model.specs.State.{State}
use Rattle.ball_model.proofs.EstimateLemmas.{estimate_fits}
use Rattle.batches.specs.Reading.{AgreesButJob}
use Rattle.batches.proofs.WholeLemmas.{batch_is_one, batch_length}
use Rattle.registers.specs.Flags.{number_of_flags}
use Rattle.replica.proofs.AheadLemmas.{batches_in}
use Rattle.replica.specs.Kept.{AreEarly}
use Rattle.replica.specs.Saved.{IsKeepable, IsFigures}
use Rattle.replica.specs.Seen.{IsState}
use Rattle.replica.proofs.KeptLemmas.Kept.{three_levels}
use Rattle.replica.proofs.SavedLemmas.Rebuilt.{table_is_told}
use Rattle.replica.proofs.SeenLemmas.Read.{few, length-tallies}
use Rattle.replica.proofs.RunsLemmas.Same.{same_state}
use Rattle.checkpoint.specs.Laws.{TextIsOne, FirstTextTellsRest, VersionsDiffer}
use Rattle.checkpoint.specs.Parts.{heard_bytes, count_bytes}
use Rattle.checkpoint.specs.Told.{IsOfPlan}
use Rattle.checkpoint.proofs.TextLemmas.{mask_is, held_is, early_few}
use Rattle.checkpoint.proofs.LengthLemmas.{range_long, accumulated_wide, accumulated_long, heard_long, count_long, front_long, vertex_long, table_long, batch_few}

-- ---- numbers
next_digit : (n m k : ℕ) → n / 2 ^ (k + 8) ≡ m / 2 ^ (k + 8) → n / 2 ^ k % 256 ≡ m / 2 ^ k % 256 → n / 2 ^ k ≡ m / 2 ^ k
next_digit n m k high low =
    let a : n / 2 ^ k / 256 ≡ m / 2 ^ k / 256 = shr-shr n k 8 ∙ high ∙ sym (shr-shr m k 8) in
    omega (arith, a, low)

pub same_16 : (n m : ℕ) → n < 2 ^ 128 → m < 2 ^ 128 → to_be_bytes w128 n ≡ to_be_bytes w128 m → n ≡ m
same_16 n m fits also e =
    let at : (i : ℕ) → get_or (to_be_bytes w128 n) i 0 ≡ get_or (to_be_bytes w128 m) i 0 = λ i. ap (λ (l : List ℕ). get_or l i 0) e in
    let d0 : n / 2 ^ 128 ≡ m / 2 ^ 128 = omega (arith, fits, also) in
    let d1 : n / 2 ^ 120 ≡ m / 2 ^ 120 = next_digit n m 120 d0 (at 0) in
    let d2 : n / 2 ^ 112 ≡ m / 2 ^ 112 = next_digit n m 112 d1 (at 1) in
    let d3 : n / 2 ^ 104 ≡ m / 2 ^ 104 = next_digit n m 104 d2 (at 2) in
    let d4 : n / 2 ^ 96 ≡ m / 2 ^ 96 = next_digit n m 96 d3 (at 3) in
    let d5 : n / 2 ^ 88 ≡ m / 2 ^ 88 = next_digit n m 88 d4 (at 4) in
    let d6 : n / 2 ^ 80 ≡ m / 2 ^ 80 = next_digit n m 80 d5 (at 5) in
    let d7 : n / 2 ^ 72 ≡ m / 2 ^ 72 = next_digit n m 72 d6 (at 6) in
    let d8 : n / 2 ^ 64 ≡ m / 2 ^ 64 = next_digit n m 64 d7 (at 7) in
    let d9 : n / 2 ^ 56 ≡ m / 2 ^ 56 = next_digit n m 56 d8 (at 8) in
    let d10 : n / 2 ^ 48 ≡ m / 2 ^ 48 = next_digit n m 48 d9 (at 9) in
    let d11 : n / 2 ^ 40 ≡ m / 2 ^ 40 = next_digit n m 40 d10 (at 10) in
    let d12 : n / 2 ^ 32 ≡ m / 2 ^ 32 = next_digit n m 32 d11 (at 11) in
    let d13 : n / 2 ^ 24 ≡ m / 2 ^ 24 = next_digit n m 24 d12 (at 12) in
    let d14 : n / 2 ^ 16 ≡ m / 2 ^ 16 = next_digit n m 16 d13 (at 13) in
    let d15 : n / 2 ^ 8 ≡ m / 2 ^ 8 = next_digit n m 8 d14 (at 14) in
    let e0 : n / 256 ≡ m / 256 = d15 in
    let last : n % 256 ≡ m % 256 = at 15 in
    omega (arith, e0, last)

pub same_8 : (n m : ℕ) → n < 2 ^ 64 → m < 2 ^ 64 → to_be_bytes w64 n ≡ to_be_bytes w64 m → n ≡ m
same_8 n m fits also e = sym (from_be_bytes-to_be_bytes_8 n fits) ∙ ap (from_be_bytes w64) e ∙ from_be_bytes-to_be_bytes_8 m also

pub same_4 : (n m : ℕ) → n < 2 ^ 32 → m < 2 ^ 32 → to_be_bytes w32 n ≡ to_be_bytes w32 m → n ≡ m
same_4 n m fits also e = sym (from_be_bytes-to_be_bytes_4 n fits) ∙ ap (from_be_bytes w32) e ∙ from_be_bytes-to_be_bytes_4 m also

pub same_2 : (n m : ℕ) → n < 2 ^ 16 → m < 2 ^ 16 → to_be_bytes w16 n ≡ to_be_bytes w16 m → n ≡ m
same_2 n m fits also e = sym (from_be_bytes-to_be_bytes_2 n fits) ∙ ap (from_be_bytes w16) e ∙ from_be_bytes-to_be_bytes_2 m also

same_mark : (a b : Bool) → mark_byte a ≡ mark_byte b → a ≡ b
same_mark true true e = refl
same_mark false false e = refl
same_mark true false e = absurd (omega (arith, e))
same_mark false true e = absurd (omega (arith, e))

pub same_flags : (xs ys : List Bool) → length xs ≡ length ys → number_of_flags xs ≡ number_of_flags ys → xs ≡ ys
unfolding number_of_flags
same_flags [] [] long e = refl
same_flags [] (y ∷ ys) long e = absurd (omega (arith, long))
same_flags (x ∷ xs) [] long e = absurd (omega (arith, long))
same_flags (true ∷ xs) (true ∷ ys) long e = ap (λ (l : List Bool). true ∷ l) (same_flags xs ys (omega (arith, long)) (omega (arith, e)))
same_flags (false ∷ xs) (false ∷ ys) long e = ap (λ (l : List Bool). false ∷ l) (same_flags xs ys (omega (arith, long)) (omega (arith, e)))
same_flags (true ∷ xs) (false ∷ ys) long e = absurd (omega (arith, e))
same_flags (false ∷ xs) (true ∷ ys) long e = absurd (omega (arith, e))

-- ---- lists, one behind the other
pub halves : {X : Type 0} (us vs xs ys : List X) → length us ≡ length vs → us ++ xs ≡ vs ++ ys → (us ≡ vs) × (xs ≡ ys)
halves [] [] xs ys long e = (refl, e)
halves [] (b ∷ vs) xs ys long e = absurd (omega (arith, long))
halves (a ∷ us) [] xs ys long e = absurd (omega (arith, long))
halves {X} (a ∷ us) (b ∷ vs) xs ys long e =
    let one : a ≡ b = ap (λ (l : List X). get_or l 0 a) e in
    let rest = halves us vs xs ys (omega (arith, long)) (ap (λ (l : List X). drop 1 l) e) in
    (ap₂ (λ (x : X) (l : List X). x ∷ l) one rest.0, rest.1)

same_pieces : (f g : ℕ → List ℕ) (a n : ℕ) → ((i : ℕ) → i < a + n → length (f i) ≡ length (g i)) → flat_map f (range_with_len a n) ≡ flat_map g (range_with_len a n) → (i : ℕ) → a ≤ i → i < a + n → f i ≡ g i
same_pieces f g a zero long e i from to = absurd (omega (arith, from, to))
same_pieces f g a (suc n) long e i from to =
    let both = halves (f a) (g a) (flat_map f (range_with_len (a + 1) n)) (flat_map g (range_with_len (a + 1) n)) (long a (omega arith)) e in
    elim (cases_lt a i) [
      | inl later ↦ same_pieces f g (a + 1) n (λ k lt. long k (omega (arith, lt))) both.1 i (omega (arith, later)) (omega (arith, to))
      | inr le ↦ let same : a ≡ i = omega (arith, from, le) in subst (λ (k : ℕ). f k ≡ g k) same both.0
    ]

same_numbers : (xs ys : List ℕ) → length xs ≡ length ys → ((i : ℕ) → get_or xs i 0 < 2 ^ 128) → ((i : ℕ) → get_or ys i 0 < 2 ^ 128) → flat_map (to_be_bytes w128) xs ≡ flat_map (to_be_bytes w128) ys → xs ≡ ys
same_numbers [] [] long fits also e = refl
same_numbers [] (y ∷ ys) long fits also e = absurd (omega (arith, long))
same_numbers (x ∷ xs) [] long fits also e = absurd (omega (arith, long))
same_numbers (x ∷ xs) (y ∷ ys) long fits also e =
    let both = halves (to_be_bytes w128 x) (to_be_bytes w128 y) (flat_map (to_be_bytes w128) xs) (flat_map (to_be_bytes w128) ys) refl e in
    ap₂ (λ (n : ℕ) (l : List ℕ). n ∷ l) (same_16 x y (fits 0) (also 0) both.0) (same_numbers xs ys (omega (arith, long)) (λ i. fits (suc i)) (λ i. also (suc i)) both.1)

same_rows : (w : ℕ) (xs ys : List (List ℕ)) → length xs ≡ length ys → ((i : ℕ) → i < length xs → length (get_or xs i []) ≡ w) → ((i : ℕ) → i < length ys → length (get_or ys i []) ≡ w) → flat_map (λ row. row) xs ≡ flat_map (λ row. row) ys → xs ≡ ys
same_rows w [] [] long fits also e = refl
same_rows w [] (y ∷ ys) long fits also e = absurd (omega (arith, long))
same_rows w (x ∷ xs) [] long fits also e = absurd (omega (arith, long))
same_rows w (x ∷ xs) (y ∷ ys) long fits also e =
    let both = halves x y (flat_map (λ row. row) xs) (flat_map (λ row. row) ys) (fits 0 (omega arith) ∙ sym (also 0 (omega arith))) e in
    ap₂ (λ (n : List ℕ) (l : List (List ℕ)). n ∷ l) both.0 (same_rows w xs ys (omega (arith, long)) (λ i lt. fits (suc i) (omega (arith, lt))) (λ i lt. also (suc i) (omega (arith, lt))) both.1)

-- ---- figures
pub estimate_at : (v : State) → IsState v → (i : ℕ) → i < length v.part.preds → (get_or v.tallies i no_figures).last < 2 ^ 63
estimate_at v s i lt =
    let long = length-tallies v s in
    let row : IsCounterRow v.part.plan.log2m (get_or v.rows i []) = s.rows.row i (omega (arith, lt, s.count)) in
    let is : (get_or v.tallies i no_figures).last ≡ estimate_with (measure_of v.part.plan) (get_or v.rows i []) =
    sym (get_or-map (λ (t : TallyValue). t.last) v.tallies i no_figures 0 (omega (arith, lt, long))) ∙ ap (λ (l : List ℕ). get_or l i 0) s.lasts ∙ get_or-map (estimate_with (measure_of v.part.plan)) v.rows i [] 0 (omega (arith, lt, s.count)) in
    rw is (estimate_fits v.part.plan.corrected v.part.plan.log2m (get_or v.rows i []) row)

rising : (sums : List ℕ) (t n i : ℕ) → i + n ≡ t → ((k : ℕ) → k < t → get_or sums k 0 ≤ get_or sums (k + 1) 0) → get_or sums i 0 ≤ get_or sums t 0
rising sums t zero i e h = let same : i ≡ t = omega (arith, e) in subst (λ (k : ℕ). get_or sums i 0 ≤ get_or sums k 0) same (omega arith)
rising sums t (suc n) i e h = let one = h i (omega (arith, e)) in let rest = rising sums t n (i + 1) (omega (arith, e)) h in omega (arith, one, rest)

pub sum_fits : (v : State) → IsState v → (i : ℕ) → get_or v.sums i 0 < 2 ^ 128
sum_fits v s i =
    let small = few v s in
    let long = length-tallies v s in
    let each : All (λ (t : TallyValue). t.last ≤ 2 ^ 63) v.tallies = λ k d lt. rw (get_or_default v.tallies k d no_figures lt) (let below = estimate_at v s k (omega (arith, lt, long)) in omega (arith, below)) in
    let total = sum_by-le (λ (t : TallyValue). t.last) (2 ^ 63) v.tallies each in
    let most = mul-le (length v.tallies) (2 ^ 63) most_vertices (2 ^ 63) (omega (arith, small, long)) (omega arith) in
    elim (cases_lt i (v.superstep + 1)) [
      | inl lt ↦ let up = rising v.sums v.superstep (v.superstep - i) i (omega (arith, lt)) s.sums.rise in omega (arith, up, s.sums.last_is, total, most)
      | inr le ↦ let past = get_or_past v.sums i 0 (omega (arith, le, s.sums.count)) in omega (arith, past)
    ]

-- ---- a vertex
-- its spelling up to its registers
abbrev entry_head : State → ℕ → List ℕ
entry_head v i = (((mark_byte (get_or v.marks i false) ∷ []) ++ to_be_bytes w64 (get_or v.tallies i no_figures).last) ++ to_be_bytes w64 (get_or v.tallies i no_figures).harm) ++ to_be_bytes w128 (get_or v.tallies i no_figures).dist

record SameVertex (v w : State) (i : ℕ) : Type 0 where
  mark : get_or v.marks i false ≡ get_or w.marks i false
  tally : get_or v.tallies i no_figures ≡ get_or w.tallies i no_figures
  row : get_or v.rows i [] ≡ get_or w.rows i []

same_vertex : (v w : State) (i : ℕ) → IsKeepable v → IsKeepable w → i < length v.part.preds → i < length w.part.preds → vertex_bytes v i ≡ vertex_bytes w i → SameVertex v w i
unfolding vertex_bytes
same_vertex v w i k m lt also e =
    let parts = halves (entry_head v i) (entry_head w i) (get_or v.rows i []) (get_or w.rows i []) refl e in
    let figures = halves ((mark_byte (get_or v.marks i false) ∷ []) ++ to_be_bytes w64 (get_or v.tallies i no_figures).last ++ to_be_bytes w64 (get_or v.tallies i no_figures).harm) ((mark_byte (get_or w.marks i false) ∷ []) ++ to_be_bytes w64 (get_or w.tallies i no_figures).last ++ to_be_bytes w64 (get_or w.tallies i no_figures).harm) (to_be_bytes w128 (get_or v.tallies i no_figures).dist) (to_be_bytes w128 (get_or w.tallies i no_figures).dist) refl parts.0 in
    let two = halves ((mark_byte (get_or v.marks i false) ∷ []) ++ to_be_bytes w64 (get_or v.tallies i no_figures).last) ((mark_byte (get_or w.marks i false) ∷ []) ++ to_be_bytes w64 (get_or w.tallies i no_figures).last) (to_be_bytes w64 (get_or v.tallies i no_figures).harm) (to_be_bytes w64 (get_or w.tallies i no_figures).harm) refl figures.0 in
    let one = halves (mark_byte (get_or v.marks i false) ∷ []) (mark_byte (get_or w.marks i false) ∷ []) (to_be_bytes w64 (get_or v.tallies i no_figures).last) (to_be_bytes w64 (get_or w.tallies i no_figures).last) refl two.0 in
    let a = estimate_at v k.state i lt in
    let b = estimate_at w m.state i also in
    let f : IsFigures (get_or v.tallies i no_figures) = k.figures i no_figures (omega (arith, lt, length-tallies v k.state)) in
    let h : IsFigures (get_or w.tallies i no_figures) = m.figures i no_figures (omega (arith, also, length-tallies w m.state)) in
    let last = same_8 _ _ (omega (arith, a)) (omega (arith, b)) one.1 in
    let harm = same_8 _ _ (omega (arith, a, f.harm)) (omega (arith, b, h.harm)) two.1 in
    let dist = same_16 _ _ (omega (arith, a, f.dist)) (omega (arith, b, h.dist)) figures.1 in
    record {
      mark = same_mark _ _ (ap (λ (l : List ℕ). get_or l 0 0) one.0);
      tally = λ j. record { last = last j; harm = harm j; dist = dist j };
      row = parts.1;
    }

-- ---- the table
record SameTable (v w : State) : Type 0 where
  marks : v.marks ≡ w.marks
  tallies : v.tallies ≡ w.tallies
  rows : v.rows ≡ w.rows
  sums : v.sums ≡ w.sums

table_tells : (v w : State) → IsKeepable v → IsKeepable w → v.part ≡ w.part → v.superstep ≡ w.superstep → table_bytes v ≡ table_bytes w → SameTable v w
unfolding table_bytes
table_tells v w k m part step e =
    let size : length w.part.preds ≡ length v.part.preds = sym (ap (λ (p : PartValue). length p.preds) part) in
    let width : 2 ^ w.part.plan.log2m ≡ 2 ^ v.part.plan.log2m = sym (ap (λ (p : PartValue). 2 ^ p.plan.log2m) part) in
    let one = range_long (vertex_bytes v) (33 + 2 ^ v.part.plan.log2m) 0 (length v.part.preds) (λ i lt. vertex_long v k.state i (omega (arith, lt))) in
    let other = range_long (vertex_bytes w) (33 + 2 ^ w.part.plan.log2m) 0 (length w.part.preds) (λ i lt. vertex_long w m.state i (omega (arith, lt))) in
    let long : length (flat_map (vertex_bytes v) (range_with_len 0 (length v.part.preds))) ≡ length (flat_map (vertex_bytes w) (range_with_len 0 (length w.part.preds))) = one ∙ sym (other ∙ rw (size, width) refl) in
    let parts = halves (flat_map (vertex_bytes v) (range_with_len 0 (length v.part.preds))) (flat_map (vertex_bytes w) (range_with_len 0 (length w.part.preds))) (flat_map (to_be_bytes w128) v.sums) (flat_map (to_be_bytes w128) w.sums) long e in
    let pieces : flat_map (vertex_bytes v) (range_with_len 0 (length v.part.preds)) ≡ flat_map (vertex_bytes w) (range_with_len 0 (length v.part.preds)) = parts.0 ∙ ap (λ (n : ℕ). flat_map (vertex_bytes w) (range_with_len 0 n)) size in
    let each : (i : ℕ) → i < length v.part.preds → SameVertex v w i = λ i lt. same_vertex v w i k m lt (omega (arith, lt, size))
    (same_pieces (vertex_bytes v) (vertex_bytes w) 0 (length v.part.preds) (λ j in_time. vertex_long v k.state j (omega (arith, in_time)) ∙ sym (vertex_long w m.state j (omega (arith, in_time, size)) ∙ ap (λ (n : ℕ). 33 + n) width)) pieces i (omega arith) (omega (arith, lt))) in
    record {
      marks = same_lists v.marks w.marks (omega (arith, k.state.marks, m.state.marks, size)) (λ i d lt. get_or_default v.marks i d false lt ∙ (each i (omega (arith, lt, k.state.marks))).mark ∙ get_or_default w.marks i false d (omega (arith, lt, k.state.marks, m.state.marks, size)));
      tallies = same_lists v.tallies w.tallies (omega (arith, length-tallies v k.state, length-tallies w m.state, size)) (λ i d lt. get_or_default v.tallies i d no_figures lt ∙ (each i (omega (arith, lt, length-tallies v k.state))).tally ∙ get_or_default w.tallies i no_figures d (omega (arith, lt, length-tallies v k.state, length-tallies w m.state, size)));
      rows = same_lists v.rows w.rows (omega (arith, k.state.count, m.state.count, size)) (λ i d lt. get_or_default v.rows i d [] lt ∙ (each i (omega (arith, lt, k.state.count))).row ∙ get_or_default w.rows i [] d (omega (arith, lt, k.state.count, m.state.count, size)));
      sums = same_numbers v.sums w.sums (omega (arith, k.state.sums.count, m.state.sums.count, step)) (sum_fits v k.state) (sum_fits w m.state) parts.1;
    }

-- ---- the front
same_step : (version : ℕ) (v w : State) → IsState v → IsState w → front_bytes version v ≡ front_bytes version w → v.superstep ≡ w.superstep
unfolding front_bytes
same_step version v w s r e =
    same_4 v.superstep w.superstep (omega (arith, s.superstep, s.part.plan.limit_to)) (omega (arith, r.superstep, r.part.plan.limit_to)) (ap (λ (l : List ℕ). take 4 (drop 18 l)) e)

-- ---- batches
all_cons : {X : Type 0} (P : X → Type 0) (x : X) (xs : List X) → P x → All P xs → All P (x ∷ xs)
all_cons P x xs p h zero d lt = p
all_cons P x xs p h (suc k) d lt = h k d (omega (arith, lt))

slots_are : (P : BatchValue → Type 0) (slots : List (Option BatchValue)) → ((q : ℕ) → IfSome (get_or slots q None) P) → All P (batches_in slots)
unfolding batches_in
slots_are P [] h = λ k d lt. absurd (omega (arith, lt))
slots_are P (None ∷ rest) h = slots_are P rest (λ q. h (suc q))
slots_are P (Some b ∷ rest) h = all_cons P b (batches_in rest) (h 0) (slots_are P rest (λ q. h (suc q)))

pub early_are : (v : State) → IsState v → All (IsOfPlan v.part.plan) (kept_batches v.early)
early_are v s =
    let level : (i : ℕ) → All (IsOfPlan v.part.plan) (batches_in (get_or v.early i [])) = λ i. slots_are (IsOfPlan v.part.plan) (get_or v.early i []) (λ q. IfSome_then (get_or (get_or v.early i []) q None) (s.early.kept i q) (λ b is. record { batch = is.batch; plan_is = is.plan_is })) in
    subst (λ (l : List BatchValue). All (IsOfPlan v.part.plan) l) (sym (three_levels v.early s.early.table.levels))
    (All-append (IsOfPlan v.part.plan) (batches_in (get_or v.early 0 [])) _ (level 0) (All-append (IsOfPlan v.part.plan) (batches_in (get_or v.early 1 [])) _ (level 1) (level 2)))

pub agree : (p q : PlanValue) → q ≡ p → AgreesButJob p q
agree p q e = e ∙ ap (λ (j : List ℕ). record p { job = j }) (sym (ap (λ (r : PlanValue). r.job) e))

same_batches : (plan : PlanValue) (xs ys : List BatchValue) → length xs ≡ length ys → All (IsOfPlan plan) xs → All (IsOfPlan plan) ys → flat_map early_bytes xs ≡ flat_map early_bytes ys → xs ≡ ys
same_batches plan [] [] long p q e = refl
same_batches plan [] (y ∷ ys) long p q e = absurd (omega (arith, long))
same_batches plan (x ∷ xs) [] long p q e = absurd (omega (arith, long))
same_batches plan (x ∷ xs) (y ∷ ys) long p q e =
    let ok : IsOfPlan plan x = p 0 x (omega arith) in
    let also : IsOfPlan plan y = q 0 y (omega arith) in
    let one = halves (to_be_bytes w64 (length (batch_bytes x))) (to_be_bytes w64 (length (batch_bytes y))) (batch_bytes x ++ flat_map early_bytes xs) (batch_bytes y ++ flat_map early_bytes ys) refl e in
    let many = same_8 (length (batch_bytes x)) (length (batch_bytes y)) (omega (arith, batch_length x ok.batch, batch_few x ok.batch)) (omega (arith, batch_length y also.batch, batch_few y also.batch)) one.0 in
    let two = halves (batch_bytes x) (batch_bytes y) (flat_map early_bytes xs) (flat_map early_bytes ys) many one.1 in
    ap₂ (λ (b : BatchValue) (l : List BatchValue). b ∷ l) (batch_is_one x y ok.batch also.batch (agree x.plan y.plan (also.plan_is ∙ sym ok.plan_is)) two.0)
    (same_batches plan xs ys (omega (arith, long)) (λ k d lt. p (suc k) d (omega (arith, lt))) (λ k d lt. q (suc k) d (omega (arith, lt))) two.1)

-- ---- what is held
record SameHeld (v w : State) : Type 0 where
  heard : v.heard ≡ w.heard
  change : v.heard_change ≡ w.heard_change
  accumulated : v.accumulated ≡ w.accumulated
  early : v.early ≡ w.early

number_fits : (xs : List Bool) → number_of_flags xs < 2 ^ length xs
unfolding number_of_flags
number_fits [] = omega arith
number_fits (x ∷ xs) =
    let rest = number_fits xs in
    let twice : 2 ^ suc (length xs) ≡ 2 ^ length xs * 2 = pow-suc 2 (length xs) in
    flag_fits x (number_of_flags xs) (2 ^ length xs) (2 ^ suc (length xs)) rest twice
  where
    flag_fits : (flag : Bool) (n p r : ℕ) → n < p → r ≡ p * 2 → 2 * n + (if flag then 1 else 0) < r
    flag_fits true n p r lt e = omega (arith, lt, e)
    flag_fits false n p r lt e = omega (arith, lt, e)

pub mask_fits : (xs : List Bool) → length xs ≡ 64 → mask_of xs < 2 ^ 64
mask_fits xs long = rw (sym (mask_is xs long)) (subst (λ (n : ℕ). number_of_flags xs < 2 ^ n) long (number_fits xs))

same_heard : (v w : State) → length v.heard ≡ 64 → length w.heard ≡ 64 → heard_bytes v ≡ heard_bytes w → (v.heard ≡ w.heard) × (v.heard_change ≡ w.heard_change)
unfolding heard_bytes
same_heard v w long also e =
    let parts = halves (to_be_bytes w64 (mask_of v.heard)) (to_be_bytes w64 (mask_of w.heard)) (mark_byte v.heard_change ∷ []) (mark_byte w.heard_change ∷ []) refl e in
    let mask = same_8 (mask_of v.heard) (mask_of w.heard) (mask_fits v.heard long) (mask_fits w.heard also) parts.0 in
    (same_flags v.heard w.heard (long ∙ sym also) (mask_is v.heard long ∙ mask ∙ sym (mask_is w.heard also)), same_mark _ _ (ap (λ (l : List ℕ). get_or l 0 0) parts.1))

same_count : (v w : State) → IsState v → IsState w → count_bytes v ≡ count_bytes w → length (kept_batches v.early) ≡ length (kept_batches w.early)
unfolding count_bytes
same_count v w s r e =
    same_2 (length (kept_batches v.early)) (length (kept_batches w.early)) (omega (arith, early_few v.part.plan.parts v.early s.early.table, s.part.plan.parts_to)) (omega (arith, early_few w.part.plan.parts w.early r.early.table, r.part.plan.parts_to)) e

same_held : (v w : State) → IsState v → IsState w → v.part ≡ w.part → v.superstep ≡ w.superstep → held_bytes v ≡ held_bytes w → SameHeld v w
same_held v w s r part step e =
    let acc : State → List ℕ = λ u. flat_map (λ row. row) u.accumulated in
    let size : length w.part.preds ≡ length v.part.preds = sym (ap (λ (p : PartValue). length p.preds) part) in
    let width : 2 ^ w.part.plan.log2m ≡ 2 ^ v.part.plan.log2m = sym (ap (λ (p : PartValue). 2 ^ p.plan.log2m) part) in
    let one = accumulated_long v s in
    let other = accumulated_long w r in
    let rows : length (acc v) ≡ length (acc w) = one ∙ sym (other ∙ rw (size, width) refl) in
    let long : length ((heard_bytes v ++ acc v) ++ count_bytes v) ≡ length ((heard_bytes w ++ acc w) ++ count_bytes w) =
    omega (arith, rows, heard_long v, heard_long w, count_long v, count_long w, length-append (heard_bytes v ++ acc v) (count_bytes v), length-append (heard_bytes w ++ acc w) (count_bytes w), length-append (heard_bytes v) (acc v), length-append (heard_bytes w) (acc w)) in
    let shorter : length (heard_bytes v ++ acc v) ≡ length (heard_bytes w ++ acc w) = omega (arith, rows, heard_long v, heard_long w, length-append (heard_bytes v) (acc v), length-append (heard_bytes w) (acc w)) in
    let last = halves ((heard_bytes v ++ acc v) ++ count_bytes v) ((heard_bytes w ++ acc w) ++ count_bytes w) (flat_map early_bytes (kept_batches v.early)) (flat_map early_bytes (kept_batches w.early)) long (held_is v ∙ e ∙ sym (held_is w)) in
    let counts = halves (heard_bytes v ++ acc v) (heard_bytes w ++ acc w) (count_bytes v) (count_bytes w) shorter last.0 in
    let first = halves (heard_bytes v) (heard_bytes w) (acc v) (acc w) (heard_long v ∙ sym (heard_long w)) counts.0 in
    let heard = same_heard v w s.heard.count r.heard.count first.0 in
    let plans : w.part.plan ≡ v.part.plan = sym (ap (λ (p : PartValue). p.plan) part) in
    let ours : All (IsOfPlan v.part.plan) (kept_batches w.early) = subst (λ (p : PlanValue). All (IsOfPlan p) (kept_batches w.early)) plans (early_are w r) in
    let batches = same_batches v.part.plan (kept_batches v.early) (kept_batches w.early) (same_count v w s r counts.1) (early_are v s) ours last.1 in
    let theirs : AreEarly v.part.plan v.part.number v.superstep w.early = rw (part, step) r.early in
    record {
      heard = heard.0;
      change = heard.1;
      accumulated = same_rows (2 ^ v.part.plan.log2m) v.accumulated w.accumulated (omega (arith, s.accumulated.count, r.accumulated.count, s.count, r.count, size)) (accumulated_wide v s) (λ i lt. accumulated_wide w r i lt ∙ width) first.1;
      early = table_is_told v.part.plan v.part.number v.superstep v.early w.early s.part.plan s.early theirs batches;
    }

-- ---- THE LAWS
pub unsealed : (xs ys : List ℕ) → sealed xs ≡ sealed ys → xs ≡ ys
unsealed xs ys e = (halves xs ys (sha256 xs) (sha256 ys) (omega (arith, ap (λ (l : List ℕ). length l) e, length-append xs (sha256 xs), length-append ys (sha256 ys), length-sha256 xs, length-sha256 ys)) e).0

pub text_is_one : TextIsOne
unfolding checkpoint_bytes
text_is_one v w k m part e =
    let s = k.state in
    let r = m.state in
    let body = unsealed ((front_bytes 2 v ++ table_bytes v) ++ held_bytes v) ((front_bytes 2 w ++ table_bytes w) ++ held_bytes w) e in
    let size : length w.part.preds ≡ length v.part.preds = sym (ap (λ (p : PartValue). length p.preds) part) in
    let width : 2 ^ w.part.plan.log2m ≡ 2 ^ v.part.plan.log2m = sym (ap (λ (p : PartValue). 2 ^ p.plan.log2m) part) in
    let flat : (front_bytes 2 v ++ (table_bytes v ++ held_bytes v)) ≡ (front_bytes 2 w ++ (table_bytes w ++ held_bytes w)) = sym (append_assoc (front_bytes 2 v) (table_bytes v) (held_bytes v)) ∙ body ∙ append_assoc (front_bytes 2 w) (table_bytes w) (held_bytes w) in
    let front = halves (front_bytes 2 v) (front_bytes 2 w) (table_bytes v ++ held_bytes v) (table_bytes w ++ held_bytes w) (front_long 2 v s ∙ sym (front_long 2 w r)) flat in
    let step = same_step 2 v w s r front.0 in
    let rows : length v.part.preds * (33 + 2 ^ v.part.plan.log2m) ≡ length w.part.preds * (33 + 2 ^ w.part.plan.log2m) = rw (size, width) refl in
    let rest = halves (table_bytes v) (table_bytes w) (held_bytes v) (held_bytes w) (omega (arith, table_long v s, table_long w r, rows, s.sums.count, r.sums.count, step)) front.1 in
    let table = table_tells v w k m part step rest.0 in
    let held = same_held v w s r part step rest.1 in
    same_state v w part step table.rows table.marks table.tallies table.sums held.heard held.change held.accumulated held.early

pub first_text_tells_rest : FirstTextTellsRest
unfolding first_checkpoint_bytes
first_text_tells_rest v w k m part e =
    let body = unsealed (front_bytes 1 v ++ table_bytes v) (front_bytes 1 w ++ table_bytes w) e in
    let front = halves (front_bytes 1 v) (front_bytes 1 w) (table_bytes v) (table_bytes w) (front_long 1 v k.state ∙ sym (front_long 1 w m.state)) body in
    let step = same_step 1 v w k.state m.state front.0 in
    let table = table_tells v w k m part step front.1 in
    same_state (without_names v) (without_names w) part step table.rows table.marks table.tallies table.sums refl refl table.rows (ap (λ (p : PartValue). replicate 3 (replicate p.plan.parts None)) part)

pub versions_differ : VersionsDiffer
unfolding checkpoint_bytes first_checkpoint_bytes front_bytes
versions_differ v w e =
    let same : 1 ≡ 2 = ap (λ (l : List ℕ). get_or l 4 0) e in
    absurd (omega (arith, same))
