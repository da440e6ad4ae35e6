-- What two replicas of one partition know, taken together.
use Rattle.std.proofs.Common.{◌≡◌, ℕ, zero, suc, ◌+◌, ◌-◌, ◌^◌, ◌<◌, ◌≤◌, max, ◌==◌, nat_le, not, Bool, false, ◌&&◌, ◌||◌, List, [], ◌∷◌, length, map, get_or, refl, ap, arith, sym, ◌∙◌, subst, ◌⊎◌}
use Rattle.replica.proofs.Names.{common_steps, Option, zip, le-leb, get_or-map-range_with_len, length-map-range_with_len, PlanValue, Job, IsPart, BatchValue, changed_count, State, StandsFor, content_of, early_at, further, heard_changes, Table, max_each}
use Rattle.std.proofs.lemmas.Bool.Decides.{nat_tests}
use Rattle.std.proofs.Math.Bool.{and-or_distrib_right}
use Rattle.ball_model.proofs.AccumulatedPartLemmas.{accumulated_of-or, accumulated_of-alike}
use Rattle.registers.specs.Joined.{maximum_of_rows, union_of_flags}
use Rattle.replica.specs.Ahead.{IsTable, either}
use Rattle.replica.specs.Hearing.{Hears}
use Rattle.replica.specs.Index.{targets_of}
use Rattle.replica.specs.Kept.{AreEarly, AreCounters, AllRise}
use Rattle.replica.specs.Level.{differences}
use Rattle.replica.specs.Merged.{ShowsAs, Absorbs}
use Rattle.replica.specs.Seen.{IsState}
use Rattle.replica.specs.Spread.{AreTouched}
use Rattle.replica.proofs.HearingLemmas.Hear.{any_or, any_same}
use Rattle.replica.proofs.KeptLemmas.Rise.{max_rises, rise_counters}

-- ---- one or the other

abbrev pub IsEither : Option BatchValue → Option BatchValue → Option BatchValue → Type 0
IsEither a b c = (c ≡ either a b) ⊎ (c ≡ either b a)

-- ---- one is further

-- f, the further one, has also heard and kept what l did
pub record Gathers (log2m : ℕ) (f l w : State) : Type 0 where
  pub lt : l.superstep < f.superstep
  pub shown : ShowsAs w f
  pub hears : Hears log2m (targets_of w.part) (λ q. early_at l.early (f.superstep - l.superstep - 1) q)
      (record { heard = f.heard; change = f.heard_change; accumulated = f.accumulated }) (record { heard = w.heard; change = w.heard_change; accumulated = w.accumulated })
  pub early : (i q : ℕ) → IsEither (early_at f.early i q) (early_at l.early (i + 1 + (f.superstep - l.superstep - 1)) q) (early_at w.early i q)
  pub table : IsTable f.part.plan.parts w.early

-- the limits of what is kept
pub early_union : (plan : PlanValue) (p m n k : ℕ) (a b c : List (List (Option BatchValue))) → AreEarly plan p m a → AreEarly plan p n b → n + k ≡ m → IsTable plan.parts c → ((i q : ℕ) → IsEither (early_at a i q) (early_at b (i + k) q) (early_at c i q)) → AreEarly plan p m c
early_union plan p m n k a b c ea eb at table union = grind arith

-- the limits
pub gathers_state : (f l w : State) → IsState f → IsState l → Gathers f.part.plan.log2m f l w → l.part.plan ≡ f.part.plan → l.part.number ≡ f.part.number → w.part.plan ≡ f.part.plan → w.part.number ≡ f.part.number → length w.part.preds ≡ length f.part.preds → IsPart w.part → IsState w
gathers_state f l w sf sl g plan number wplan wnumber size ok = grind arith

-- ---- both are at one superstep

flags_at : (a b : List Bool) (q : ℕ) → length a ≡ length b → get_or (union_of_flags a b) q false ≡ (get_or a q false || get_or b q false)
flags_at [] [] q e = refl
flags_at [] (y ∷ b) q e = absurd (omega arith)
flags_at (x ∷ a) [] q e = absurd (omega arith)
flags_at (x ∷ a) (y ∷ b) zero e = refl
flags_at (x ∷ a) (y ∷ b) (suc q) e = flags_at a b q (omega arith)

length-flags : (a b : List Bool) → length a ≡ length b → length (union_of_flags a b) ≡ length a
length-flags [] b e = refl
length-flags (x ∷ a) [] e = absurd (omega arith)
length-flags (x ∷ a) (y ∷ b) e = ap suc (length-flags a b (omega arith))

-- row by row the maximum of two
maxima_at : (a b : List (List ℕ)) (i : ℕ) → i < length a → length a ≡ length b → get_or (map (λ p. max_each p.0 p.1) (zip a b)) i [] ≡ max_each (get_or a i []) (get_or b i [])
maxima_at [] b i lt e = absurd (omega arith)
maxima_at (x ∷ a) [] i lt e = absurd (omega arith)
maxima_at (x ∷ a) (y ∷ b) zero lt e = refl
maxima_at (x ∷ a) (y ∷ b) (suc i) lt e = maxima_at a b i (omega arith) (omega arith)

pub length-maxima : (a b : List (List ℕ)) → length a ≡ length b → length (map (λ p. max_each p.0 p.1) (zip a b)) ≡ length a
length-maxima [] b e = refl
length-maxima (x ∷ a) [] e = absurd (omega arith)
length-maxima (x ∷ a) (y ∷ b) e = ap suc (length-maxima a b (omega arith))

-- they rise
pub max_rise : (log2m : ℕ) (a b : List (List ℕ)) → AreCounters log2m a → AreCounters log2m b → length a ≡ length b → AllRise log2m a (map (λ p. max_each p.0 p.1) (zip a b))
max_rise log2m a b p q e = record {
  count = length-maxima a b e;
  rises = λ i lt. rw (maxima_at a b i lt e) (max_rises log2m (get_or a i []) (get_or b i []) (p.row i lt) (q.row i (omega arith)));
}

pub record Unites (v o w : State) : Type 0 where
  pub level : v.superstep ≡ o.superstep
  pub shown : ShowsAs w v
  pub heard : w.heard ≡ union_of_flags v.heard o.heard
  pub change : w.heard_change ≡ (v.heard_change || o.heard_change)
  pub accumulated : w.accumulated ≡ map (λ p. max_each p.0 p.1) (zip v.accumulated o.accumulated)
  pub early : (i q : ℕ) → IsEither (early_at v.early i q) (early_at o.early i q) (early_at w.early i q)
  pub table : IsTable v.part.plan.parts w.early

sources_of : (v o w : State) → IsState v → IsState o → Unites v o w → (q : ℕ) → get_or w.heard q false ≡ (get_or v.heard q false || get_or o.heard q false)
sources_of v o w sv so u q = ap (λ (l : List Bool). get_or l q false) u.heard ∙ flags_at v.heard o.heard q (sv.heard.count ∙ sym so.heard.count)

pub unites_names : (v o w : State) → IsState v → IsState o → Unites v o w → (s q : ℕ) → (content_of w).holds s q ≡ (nat_le v.superstep s && ((content_of v).holds s q || (content_of o).holds s q))
unites_names v o w sv so u s q = grind (arith, sources_of, le-leb)

changes_or : (j : Job) (t : ℕ) (a b c : List Bool) → ((q : ℕ) → get_or c q false ≡ (get_or a q false || get_or b q false)) → heard_changes j t c ≡ (heard_changes j t a || heard_changes j t b)
unfolding heard_changes
changes_or j t a b c is =
    let d : ℕ → Bool = λ q. not (changed_count j t q == 0) in
    any_same (λ q. get_or c q false && d q) (λ q. (get_or a q false && d q) || (get_or b q false && d q)) 0 j.plan.parts j.plan.parts (omega arith) (λ q _. ap (λ e. e && d q) (is q) ∙ and-or_distrib_right (get_or a q false) (get_or b q false) (d q))
    ∙ any_or (λ q. get_or a q false && d q) (λ q. get_or b q false && d q) 0 j.plan.parts

pub unites_stands : (v o w : State) → IsState v → IsState o → Unites v o w → w.part ≡ v.part → (j : Job) (p t u : ℕ) → StandsFor j p t v → StandsFor j p u o → StandsFor j p t w
unites_stands v o w sv so un part j p t u h k =
    grind (arith, sources_of, changes_or, accumulated_of-or, accumulated_of-alike)

-- two of one plan and one partition are of one size
pub as_large : (v o : State) → IsState v → IsState o → v.part.plan ≡ o.part.plan → v.part.number ≡ o.part.number → length v.part.preds ≡ length o.part.preds
as_large v o sv so plan number = sv.part.preds ∙ rw (plan, number) refl ∙ sym so.part.preds

pub as_long : (v o : State) → IsState v → IsState o → v.part.plan ≡ o.part.plan → v.part.number ≡ o.part.number → length v.accumulated ≡ length o.accumulated
as_long v o sv so plan number = sv.accumulated.count ∙ sv.count ∙ as_large v o sv so plan number ∙ sym so.count ∙ sym so.accumulated.count

pub unites_rise : (v o : State) → IsState v → IsState o → v.part.plan ≡ o.part.plan → v.part.number ≡ o.part.number → AllRise v.part.plan.log2m v.accumulated (map (λ p. max_each p.0 p.1) (zip v.accumulated o.accumulated))
unites_rise v o sv so plan number =
    let width : o.part.plan.log2m ≡ v.part.plan.log2m = ap (λ (a : PlanValue). a.log2m) (sym plan) in
    let counters : AreCounters v.part.plan.log2m o.accumulated = subst (λ n. AreCounters n o.accumulated) width (rise_counters o.part.plan.log2m o.rows o.accumulated so.accumulated) in
    max_rise v.part.plan.log2m v.accumulated o.accumulated (rise_counters v.part.plan.log2m v.rows v.accumulated sv.accumulated) counters (as_long v o sv so plan number)

pub unites_state : (v o w : State) → IsState v → IsState o → Unites v o w → v.part.plan ≡ o.part.plan → v.part.number ≡ o.part.number → w.part ≡ v.part → IsState w
unites_state v o w sv so u plan number part =
    let log2m = v.part.plan.log2m in
    let mine : AreEarly v.part.plan v.part.number o.superstep o.early = subst (λ n. AreEarly v.part.plan n o.superstep o.early) (sym number) (subst (λ (a : PlanValue). AreEarly a o.part.number o.superstep o.early) (sym plan) so.early) in
    let rise : AllRise log2m v.accumulated w.accumulated = subst (λ (l : List (List ℕ)). AllRise log2m v.accumulated l) (sym u.accumulated) (unites_rise v o sv so plan number) in
    let zero_on : o.superstep + 0 ≡ v.superstep = omega (arith, u.level) in
    let union : (i q : ℕ) → IsEither (early_at v.early i q) (early_at o.early (i + 0) q) (early_at w.early i q) =
    λ i q. let e : i ≡ i + 0 = omega arith in subst (λ k. IsEither (early_at v.early i q) (early_at o.early k q) (early_at w.early i q)) e (u.early i q) in
    grind (
      arith,
      length-flags v.heard o.heard (sv.heard.count ∙ sym so.heard.count),
      sources_of v o w sv so u,
      early_union v.part.plan v.part.number v.superstep o.superstep 0 v.early o.early w.early sv.early mine zero_on u.table union,
    )

-- ---- either way

-- the other one is further
pub absorbs_further : (log2m : ℕ) (v o w : State) → Gathers log2m o v w → w.part ≡ v.part → Absorbs v o w
absorbs_further log2m v o w g part = grind (arith, nat_tests)

-- the first one is further
pub absorbs_lesser : (log2m : ℕ) (v o w : State) → Gathers log2m v o w → w.part ≡ v.part → Absorbs v o w
absorbs_lesser log2m v o w g part = grind (arith, nat_tests)

-- neither is
pub absorbs_level : (v o w : State) → IsState v → IsState o → Unites v o w → w.part ≡ v.part → Absorbs v o w
absorbs_level v o w sv so u part =
    grind (arith, nat_tests, unites_names v o w sv so u, unites_stands v o w sv so u part)

-- ---- marks

above_from : (xs ys : List ℕ) → length xs ≡ length ys → ((k : ℕ) → k < length xs → get_or xs k 0 ≤ get_or ys k 0) → max_each xs ys ≡ ys
above_from [] [] e h = refl
above_from [] (y ∷ ys) e h = absurd (omega arith)
above_from (x ∷ xs) [] e h = absurd (omega arith)
above_from (x ∷ xs) (y ∷ ys) e h =
    let first : x ≤ y = h 0 (omega arith) in
    let here : max x y ≡ y = omega arith in
    rw (here, above_from xs ys (omega arith) (λ k lt. h (suc k) (omega arith))) refl

-- rows that rose, and the marks of those that differ
pub touched_from : (log2m n : ℕ) (rows accumulated : List (List ℕ)) (marks : List Bool) → AreCounters log2m rows → AllRise log2m rows accumulated → n ≡ length rows → marks ≡ differences rows accumulated n → AreTouched rows accumulated marks
unfolding differences
touched_from log2m n rows accumulated marks are rise size is =
    grind (arith, length-map-range_with_len, above_from, get_or-map-range_with_len)

-- the superstep of the further
pub further_superstep : (v o : State) → (further v o).superstep ≡ max v.superstep o.superstep
further_superstep v o = grind arith

-- ---- what is taken over

-- two of one plan and one partition, and the batches that the other one keeps
pub record Meets (v o : State) (shared : List (List (Option BatchValue))) : Type 0 where
  pub mine : IsState v
  pub theirs : IsState o
  pub plan : v.part.plan ≡ o.part.plan
  pub number : v.part.number ≡ o.part.number
  pub size : length v.part.preds ≡ length o.part.preds
  pub count : length v.accumulated ≡ length o.accumulated
  pub early : shared ≡ o.early
  pub table : IsTable v.part.plan.parts shared

pub meets : (v o mine theirs : State) (shared : List (List (Option BatchValue))) → IsState v → IsState o → v ≡ mine → o ≡ theirs → mine.part.plan ≡ theirs.part.plan → mine.part.number ≡ theirs.part.number → shared ≡ theirs.early → Meets v o shared
meets v o mine theirs shared sv so is other plan number early = grind arith

-- the accumulators of both, joined
pub record Raises (v o : State) (joined : Table) : Type 0 where
  pub width : joined.width ≡ 2 ^ v.part.plan.log2m
  pub rows : joined.rows ≡ map (λ p. max_each p.0 p.1) (zip v.accumulated o.accumulated)
  pub rise : AllRise v.part.plan.log2m v.accumulated joined.rows

pub raises : (v o : State) (shared : List (List (Option BatchValue))) (own other joined : Table) → Meets v o shared → own.width ≡ 2 ^ v.part.plan.log2m → own.rows ≡ v.accumulated → other.rows ≡ o.accumulated → joined ≡ maximum_of_rows own other → Raises v o joined
raises v o shared own other joined m width mine theirs is = grind (arith, common_steps, unites_rise)
