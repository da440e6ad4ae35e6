use Rattle.std.proofs.Common.{◌≡◌, List, map, ap, ap₂, sym, ◌∙◌, subst}
use Rattle.replica.proofs.Names.{sum_by, value_of, TallyValue, Measure, estimate_with, PlanValue, measure_of, Tally}
use Rattle.replica.specs.Kept.{AreSums}
use Rattle.replica.proofs.SavedLemmas.Fits.{figures_kept}
use Rattle.replica.proofs.LevelLemmas.Next.{map_lasts, sum_same}
use Rattle.replica.proofs.saved.Saved.has_figures.Goals as goal

same_measure : (a b : Measure) → a.log2m ≡ b.log2m → a.corrected ≡ b.corrected → a ≡ b
same_measure a b log2m corrected = λ i. record { log2m = log2m i; corrected = corrected i }

pub returns-then-are_last : goal.returns-then-are_last
returns-then-are_last c =
    let s = c.args.self.now in
    let part = c.args.part.now in
    let ts = s.tallies.items in
    let plan : c.plan-plan.result.now ≡ part.plan = c.plan-plan.ensures in
    let measure : record { log2m = c.log2m.result; corrected = c.is_corrected.result } ≡ measure_of part.plan =
    same_measure (record { log2m = c.log2m.result; corrected = c.is_corrected.result }) (measure_of part.plan) (c.log2m.ensures.value ∙ ap (λ (a : PlanValue). a.log2m) plan) (c.is_corrected.ensures ∙ ap (λ (a : PlanValue). a.corrected) plan) in
    let lasts : map (λ (v : TallyValue). v.last) (map value_of ts) ≡ map (estimate_with (measure_of part.plan)) s.rows.rows =
    ap (λ (items : List Tally). map (λ (v : TallyValue). v.last) (map value_of items)) (sym c.deref.ensures.value) ∙ c.are_last.ensures.0 c.if-are_last.true ∙ ap (λ (m : Measure). map (estimate_with m) s.rows.rows) measure in
    let total : c.sum_of_lasts.result ≡ sum_by (λ (v : TallyValue). v.last) (map value_of ts) =
    c.sum_of_lasts.ensures ∙ ap (λ (items : List Tally). sum_by (λ tally. tally.last) items) c.deref-then-are_last.ensures.value
    ∙ sum_same (λ (tally : Tally). tally.last) (λ (v : TallyValue). v.last) ts (map value_of ts) (map_lasts ts) in
    let same : AreSums s.superstep c.sum_of_lasts.result c.deref-then-are_last-2.result.now ≡ AreSums s.superstep (sum_by (λ (v : TallyValue). v.last) (map value_of ts)) s.sums.items =
    ap₂ (AreSums s.superstep) total c.deref-then-are_last-2.ensures.value in (
      λ is. record { lasts = lasts; limits = figures_kept ts; sums = subst (λ x. x) same (c.are_sums.ensures.0 is) },
      λ has. c.are_sums.ensures.1 (subst (λ x. x) (sym same) has.sums),
    )
