-- A state keeps its limits one superstep later, whatever the batches say, and batches can be heard beside it.
use Rattle.std.proofs.Common.{◌≡◌, ℕ, ◌+◌, ◌^◌, ◌<◌, Bool, true, false, List, length, map, get_or, replicate, ap, arith, sym, ◌∙◌}
use Rattle.replica.proofs.Names.{common_steps, sum_by, get_or_default, length-replicate, measure_of, TallyValue, Measure, estimate_with, State, Table, copies-at}
use Rattle.replica.specs.Change.{Advances}
use Rattle.replica.specs.Hearing.{HearingValue, IsQuiet, HearsByIndex}
use Rattle.replica.specs.Kept.{AllRise, AreSources, AreSums}
use Rattle.replica.specs.Level.{total_of, next_tallies}
use Rattle.replica.specs.Seen.{IsState}
use Rattle.replica.proofs.LevelLemmas.Level.{length-differing}
use Rattle.replica.proofs.LevelLemmas.Next.{stepped_lasts, sum_same}
use Rattle.replica.specs.Index.{targets_of}
use Rattle.replica.specs.Spread.{LeadInside}
use Rattle.replica.proofs.IndexLemmas.Target.{targets-inside}

-- no source
pub no_sources : (parts p : ℕ) → AreSources parts p (replicate 64 false)
no_sources parts p = record {
  count = length-replicate {A = Bool} 64 false;
  below = λ q on. absurd (let off = copies-at 64 q false in let e : true ≡ false = sym on ∙ off in cc);
  other = copies-at 64 p false;
}

pub lasts_total : (m : Measure) (rows : List (List ℕ)) (tallies : List TallyValue) → map (λ (tally : TallyValue). tally.last) tallies ≡ map (estimate_with m) rows → total_of m rows ≡ sum_by (λ (tally : TallyValue). tally.last) tallies
unfolding total_of
lasts_total m rows tallies same = sum_same (estimate_with m) (λ (tally : TallyValue). tally.last) rows tallies (sym same)

-- THE LIMITS, one superstep later
pub state_next : (v w : State) → IsState v → Advances v w → v.superstep < v.part.plan.limit → IsState w
state_next v w s a lt =
    let part : w.part ≡ v.part = a.part in
    let rows : length w.rows ≡ length v.part.preds = a.rise.count ∙ s.count in
    let lasts : map (λ (tally : TallyValue). tally.last) w.tallies ≡ map (estimate_with (measure_of v.part.plan)) w.rows =
    ap (map (λ (tally : TallyValue). tally.last)) a.tallies ∙ stepped_lasts (measure_of v.part.plan) (v.superstep + 1) w.rows v.tallies (length v.part.preds) (sym rows) in
    let total : total_of (measure_of v.part.plan) w.rows ≡ sum_by (λ (tally : TallyValue). tally.last) w.tallies = lasts_total (measure_of v.part.plan) w.rows w.tallies lasts in
    grind (
      arith,
      common_steps,
      length-differing v.rows w.rows (length v.part.preds),
      no_sources v.part.plan.parts v.part.number,
    )

-- the last sum
pub last_sum : (t last : ℕ) (sums : List ℕ) (found : ℕ) → AreSums t last sums → found ≡ get_or sums t found → found ≡ last
last_sum t last sums found s is = is ∙ get_or_default sums t found 0 (omega (arith, s.count)) ∙ s.last_is

-- with what the figures have gained it is the next one
pub next_at : (m : Measure) (t : ℕ) (rows : List (List ℕ)) (old new : List TallyValue) (sums : List ℕ) (last gain : ℕ) → AreSums t (sum_by (λ (v : TallyValue). v.last) old) sums → last ≡ get_or sums t last →
    new ≡ next_tallies m (t + 1) rows old (length rows) → sum_by (λ (v : TallyValue). v.last) new ≡ sum_by (λ (v : TallyValue). v.last) old + gain →
    (last ≡ sum_by (λ (v : TallyValue). v.last) old) × (last + gain ≡ total_of m rows)
next_at m t rows old new sums last gain s is tallies gains =
    grind (arith, last_sum, lasts_total, stepped_lasts)

-- the index leads to places of the part
pub inside_of : (v : State) (targets : List (List ℕ)) (n : ℕ) → IsState v → targets ≡ targets_of v.part → n ≡ length v.accumulated → LeadInside n targets
inside_of v targets n s is size = grind (arith, targets-inside)

-- batches can be heard beside the accumulators of a state
pub ready_at : (v : State) (targets : List (List ℕ)) (a : HearingValue) → IsState v → targets ≡ targets_of v.part → a.heard ≡ v.heard → a.accumulated.rows ≡ v.accumulated → a.accumulated.width ≡ 2 ^ v.part.plan.log2m → HearsByIndex v.part.plan.log2m targets a
ready_at v targets a s is heard rows width = grind (arith, inside_of)

-- and beside those of the next superstep, of which nothing is heard
pub ready_quiet : (v : State) (targets : List (List ℕ)) (rows : Table) (a : HearingValue) → IsState v → targets ≡ targets_of v.part → IsQuiet rows a → AllRise v.part.plan.log2m v.rows rows.rows → rows.width ≡ 2 ^ v.part.plan.log2m → HearsByIndex v.part.plan.log2m targets a
ready_quiet v targets rows a s is quiet rise width = grind (arith, inside_of)

-- and beside those of another one of the same plan and partition
pub ready_beside : (v o : State) (targets : List (List ℕ)) (a : HearingValue) → IsState v → IsState o → targets ≡ targets_of v.part → length v.part.preds ≡ length o.part.preds → a.heard ≡ o.heard → a.accumulated.rows ≡ o.accumulated → a.accumulated.width ≡ 2 ^ o.part.plan.log2m → HearsByIndex o.part.plan.log2m targets a
ready_beside v o targets a mine theirs is size heard rows width = grind (arith, inside_of)
