-- What a replica begins with.
use Rattle.std.proofs.Common.{◌≡◌, ℕ, ◌+◌, ◌*◌, ◌^◌, ◌<◌, ◌≤◌, Bool, true, false, is_some, List, [], ◌∷◌, length, map, get_or, replicate, refl, ap, arith, sym, ◌∙◌, inl, inr, ◌-◌}
use Rattle.replica.proofs.Names.{common_steps, sum_by, cases_eq, cases_lt, length-map, same_lists, length-map-range_with_len, get_or-map-range_with_len, TallyValue, Measure, estimate_with, harmonic_of, distance_of, PlanValue, IsPlan, mixing_of, part_size, measure_of, Job, IsJob, PartValue, IsPart, part_of, State, StandsFor, content_of, holds_in, own_vertices, rows_of, marks_of, tallies_of, sums_of, value_of, ball_counter, estimate_at, tally_at, Tally, copies-at}
use Rattle.ball_model.specs.Hash.{hash_of, index_of, rank_of}
use Rattle.ball_model.specs.Graph.{is_counted}
use Rattle.ball_model.specs.Laws.{IsCounterRow}
use Rattle.ball_model.proofs.RankLemmas.{rank_le, ball_counter-zero, ball_counter-uncounted}
use Rattle.ball_model.proofs.StartLemmas.{index_small, changed_where_counted}
use Rattle.registers.specs.Raised.{row_after_raise}
use Rattle.replica.specs.Level.{total_of}
use Rattle.replica.specs.Kept.{AreCounters}
use Rattle.replica.specs.Start.{alone, first_row, first_rows_of_part, first_tally, Starts}
use Rattle.replica.specs.Seen.{IsState}
use Rattle.replica.proofs.IndexLemmas.Own.{vertex_of, own_below, at_own}
use Rattle.replica.proofs.LevelLemmas.Level.{part_plan, part_number, length-part_preds, row_at, mark_at, length-rows_of, length-marks_of}
use Rattle.replica.proofs.LevelLemmas.Figure.{total_is}
use Rattle.replica.proofs.LevelLemmas.Next.{total_of-lasts}
use Rattle.replica.proofs.ChangeLemmas.Advance.{holds_now, holds_before, holds_later}
use Rattle.replica.proofs.HearingLemmas.Hear.{none_heard}
use Rattle.replica.proofs.SeenLemmas.State.{no_sources, lasts_total}
use Rattle.replica.proofs.LevelLemmas.Step.{list_is}

-- the row of a vertex, raised from nothing
pub alone_is : (plan : PlanValue) (x index rank : ℕ) (row : List ℕ) → row ≡ replicate (2 ^ plan.log2m) 0 → index ≡ index_of plan.log2m (hash_of plan.seed x) → rank ≡ rank_of plan.log2m (hash_of plan.seed x) → row_after_raise row index rank ≡ alone plan x
unfolding alone
alone_is plan x index rank row none at is = grind (arith, copies-at)

-- what a vertex that is counted begins with, and one that is not
pub first-counted : (part : PartValue) (i : ℕ) → get_or part.counted i false ≡ true → first_row part i ≡ alone part.plan (i * part.plan.parts + part.number)
unfolding first_row
first-counted part i e = rw e refl

pub first-uncounted : (part : PartValue) (i : ℕ) → get_or part.counted i false ≡ false → first_row part i ≡ replicate (2 ^ part.plan.log2m) 0
unfolding first_row
first-uncounted part i e = rw e refl

-- all rows
pub first_rows-is : (part : PartValue) (rows : List (List ℕ)) → length rows ≡ length part.preds → ((k : ℕ) → k < length part.preds → get_or rows k [] ≡ first_row part k) → rows ≡ first_rows_of_part part
unfolding first_rows_of_part
first_rows-is part rows count done = list_is (λ i. first_row part i) rows [] (length part.preds) count done

rank_small : (plan : PlanValue) (x : ℕ) → rank_of plan.log2m (hash_of plan.seed x) ≤ 33
rank_small plan x = rank_le plan.log2m (hash_of plan.seed x)

-- the row of a vertex alone is one of a counter
alone-counter : (plan : PlanValue) (x : ℕ) → IsPlan plan → IsCounterRow plan.log2m (alone plan x)
unfolding alone
alone-counter plan x ok = grind (arith, common_steps, rank_small)

-- and so is an empty one
empty-counter : (plan : PlanValue) → IsPlan plan → IsCounterRow plan.log2m (replicate (2 ^ plan.log2m) 0)
empty-counter plan ok = grind (arith, common_steps)

first_row-counter : (part : PartValue) (i : ℕ) → IsPlan part.plan → IsCounterRow part.plan.log2m (first_row part i)
first_row-counter part i ok =
    grind (arith, first-counted, alone-counter, first-uncounted, empty-counter)

first_row_at : (part : PartValue) (i : ℕ) (d : List ℕ) → i < length part.preds → get_or (first_rows_of_part part) i d ≡ first_row part i
unfolding first_rows_of_part
first_row_at part i d lt = get_or-map-range_with_len (λ k. first_row part k) 0 (length part.preds) i i d lt (omega arith)

pub length-first_rows : (part : PartValue) → length (first_rows_of_part part) ≡ length part.preds
unfolding first_rows_of_part
length-first_rows part = length-map-range_with_len (λ k. first_row part k) 0 (length part.preds)

pub first_counters : (part : PartValue) → IsPlan part.plan → AreCounters part.plan.log2m (first_rows_of_part part)
first_counters part ok = record { row = λ i lt. rw (first_row_at part i [] (omega (arith, length-first_rows part))) (first_row-counter part i ok) }

started_lasts : (m : Measure) (rows : List (List ℕ)) → map (λ (t : TallyValue). t.last) (map (λ row. first_tally (estimate_with m row)) rows) ≡ map (estimate_with m) rows
started_lasts m [] = refl
started_lasts m (row ∷ rows) = ap (λ (l : List ℕ). estimate_with m row ∷ l) (started_lasts m rows)

-- the sum of the estimates that figures begin with
pub started_total : (m : Measure) (rows : List (List ℕ)) (ts : List Tally) → map value_of ts ≡ map (λ row. first_tally (estimate_with m row)) rows → sum_by (λ tally. tally.last) ts ≡ total_of m rows
started_total m rows ts is = total_of-lasts m rows ts (ap (map (λ (t : TallyValue). t.last)) is ∙ started_lasts m rows)

-- the limits are kept from the start
pub starts_state : (part : PartValue) (v : State) → IsPart part → Starts part v → IsState v
starts_state part v ok s =
    let total : total_of (measure_of part.plan) (first_rows_of_part part) ≡ sum_by (λ (t : TallyValue). t.last) v.tallies =
    lasts_total (measure_of part.plan) (first_rows_of_part part) v.tallies (ap (map (λ (t : TallyValue). t.last)) s.tallies ∙ started_lasts (measure_of part.plan) (first_rows_of_part part)) in
    grind (
      arith,
      length-first_rows part,
      started_lasts (measure_of part.plan) (first_rows_of_part part),
      no_sources part.plan.parts part.number,
      first_counters part ok.plan,
    )

-- nothing is held at the start
pub starts_empty : (part : PartValue) (v : State) (r q : ℕ) → Starts part v → (content_of v).holds r q ≡ false
starts_empty part v r q s =
    elim (cases_eq r v.superstep) [
      | inl here ↦ ap (λ n. holds_in v.superstep v.heard v.early n q) here ∙ holds_now v.superstep v.heard v.early q ∙ ap (λ (l : List Bool). get_or l q false) s.heard ∙ copies-at 64 q false
      | inr other ↦ elim (cases_lt r v.superstep) [
        | inl before ↦ holds_before v.superstep v.heard v.early r q before
        | inr after ↦ holds_later v.superstep v.heard v.early r q (omega arith) ∙ ap is_some (s.early (r - (v.superstep + 1)) q)
      ]
    ]

-- whether an own vertex is counted
counted_at : (j : Job) (p i : ℕ) (d : Bool) → p < j.plan.parts → i < part_size j.graph.vertices j.plan.parts p → get_or (part_of j p).counted i d ≡ is_counted j.graph (vertex_of j.plan.parts p i)
unfolding part_of
counted_at j p i d below lt = at_own (λ x. is_counted j.graph x) j.graph.vertices j.plan.parts p i d below lt

length-counted : (j : Job) (p : ℕ) → length (part_of j p).counted ≡ part_size j.graph.vertices j.plan.parts p
unfolding part_of
length-counted j p = simp length-map refl

-- the row of a counted vertex alone is its counter at 0
alone-counts : (j : Job) (x : ℕ) → IsJob j → x < j.graph.vertices → is_counted j.graph x ≡ true → alone j.plan x ≡ ball_counter (mixing_of j.plan) j.graph x 0
unfolding alone
alone-counts j x ok lt counted = sym (ball_counter-zero (mixing_of j.plan) j.graph x ok.graph lt counted (index_small (mixing_of j.plan) x ok.plan.log2m_to))

-- what a vertex begins with is its counter at 0
first_row-is : (j : Job) (p k : ℕ) → IsJob j → p < j.plan.parts → k < part_size j.graph.vertices j.plan.parts p →
    first_row (part_of j p) k ≡ ball_counter (mixing_of j.plan) j.graph (vertex_of j.plan.parts p k) 0
first_row-is j p k ok below inside =
    grind (arith, own_below, first-counted, counted_at, part_plan, part_number, alone-counts, first-uncounted, ball_counter-uncounted)

first_rows_are : (j : Job) (p : ℕ) → IsJob j → p < j.plan.parts → first_rows_of_part (part_of j p) ≡ rows_of j p 0
first_rows_are j p ok below =
    grind (arith, length-part_preds, same_lists, length-first_rows, length-rows_of, first_row_at, first_row-is, row_at)

-- the counted vertices are those that are changed at 0
counted_marked : (j : Job) (p : ℕ) → IsJob j → p < j.plan.parts → (part_of j p).counted ≡ marks_of j p 0
counted_marked j p ok below =
    grind (arith, same_lists, length-counted, length-marks_of, counted_at, changed_where_counted, own_below, mark_at)

started_at : (j : Job) (xs : List ℕ) → map (λ row. first_tally (estimate_with (measure_of j.plan) row)) (map (λ x. ball_counter (mixing_of j.plan) j.graph x 0) xs) ≡ map (λ x. tally_at (mixing_of j.plan) j.graph x 0) xs
unfolding estimate_at harmonic_of distance_of
started_at j [] = refl
started_at j (x ∷ xs) = ap (λ (l : List TallyValue). first_tally (estimate_with (measure_of j.plan) (ball_counter (mixing_of j.plan) j.graph x 0)) ∷ l) (started_at j xs)

first_tallies : (j : Job) (p : ℕ) → map (λ row. first_tally (estimate_with (measure_of j.plan) row)) (rows_of j p 0) ≡ tallies_of j p 0
unfolding rows_of tallies_of
first_tallies j p = started_at j (own_vertices j p)

first_sums : (j : Job) (p : ℕ) → total_of (measure_of j.plan) (rows_of j p 0) ∷ [] ≡ sums_of j p 0
unfolding sums_of
first_sums j p = ap (λ n. n ∷ []) (total_is j p 0)

-- a replica of a job's part stands for superstep 0
pub starts_stands : (j : Job) (p : ℕ) (part : PartValue) (v : State) → IsJob j → p < j.plan.parts → part ≡ part_of j p → Starts part v → StandsFor j p 0 v
starts_stands j p part v ok below is s =
    let first = ap first_rows_of_part is ∙ first_rows_are j p ok below in
    let measure : measure_of part.plan ≡ measure_of j.plan = ap (λ (a : PartValue). measure_of a.plan) is ∙ ap (λ (a : PlanValue). measure_of a) (part_plan j p) in
    let hearing = none_heard j p 0 64 v.heard v.heard_change v.accumulated ok s.heard s.heard_change (s.accumulated ∙ first) in
    grind (arith, counted_marked j p ok below, first_tallies j p, first_sums j p)
