-- Figures and sums, one superstep later.
use Rattle.std.proofs.Common.{◌≡◌, ℕ, ◌+◌, ◌<◌, List, [], ◌∷◌, ◌++◌, length, map, get_or, refl, ap, arith}
use Rattle.replica.proofs.Names.{common_steps, sum_by, length-map, same_lists, map-range_with_len_more, length-map-range_with_len, get_or-map-range_with_len, TallyValue, estimate_with, tally_of, part_size, mixing_of, measure_of, Job, State, StandsFor, tallies_of, sums_of, rows_of, own_vertices, estimate_at, total_over, tally_at}
use Rattle.ball_model.proofs.TallyLemmas.{harmonic_more, distance_more}
use Rattle.replica.specs.Level.{next_tally, next_tallies, total_of}
use Rattle.replica.proofs.IndexLemmas.Own.{vertex_of, at_own}
use Rattle.replica.proofs.LevelLemmas.Level.{row_at, size_is, plan_is}

pub tally_in : (j : Job) (p t i : ℕ) (d : TallyValue) → p < j.plan.parts → i < part_size j.graph.vertices j.plan.parts p → get_or (tallies_of j p t) i d ≡ tally_at (mixing_of j.plan) j.graph (vertex_of j.plan.parts p i) t
unfolding tallies_of
tally_in j p t i d below lt = at_own (λ x. tally_at (mixing_of j.plan) j.graph x t) j.graph.vertices j.plan.parts p i d below lt

length-tallies_of : (j : Job) (p t : ℕ) → length (tallies_of j p t) ≡ part_size j.graph.vertices j.plan.parts p
unfolding tallies_of
length-tallies_of j p t = simp length-map refl

-- figures of any estimates, one superstep later
tally_more : (e : ℕ → ℕ) (t : ℕ) → next_tally (t + 1) (tally_of e t) (e (t + 1)) ≡ tally_of e (t + 1)
tally_more e t = rw (harmonic_more e t, distance_more e t) refl

estimate_in : (j : Job) (p t i : ℕ) → p < j.plan.parts → i < part_size j.graph.vertices j.plan.parts p → estimate_with (measure_of j.plan) (get_or (rows_of j p t) i []) ≡ estimate_at (mixing_of j.plan) j.graph (vertex_of j.plan.parts p i) t
unfolding estimate_at
estimate_in j p t i below lt = ap (estimate_with (measure_of j.plan)) (row_at j p t i [] below lt)

-- all figures
pub next_tallies_are : (j : Job) (p t : ℕ) (v : State) (rows : List (List ℕ)) → StandsFor j p t v → rows ≡ rows_of j p (t + 1) → next_tallies (measure_of v.part.plan) (v.superstep + 1) rows v.tallies (length v.part.preds) ≡ tallies_of j p (t + 1)
unfolding next_tallies
next_tallies_are j p t v rows h is =
    grind (arith, size_is, length-map-range_with_len, same_lists, length-tallies_of, tally_in, plan_is, estimate_in, get_or-map-range_with_len, tally_more)

sum_mapped : (g : List ℕ → ℕ) (f : ℕ → List ℕ) (h : ℕ → ℕ) (xs : List ℕ) → ((x : ℕ) → g (f x) ≡ h x) → sum_by g (map f xs) ≡ sum_by h xs
sum_mapped g f h xs e = grind (arith, common_steps)

-- the sum of the estimates of a partition's rows
pub total_is : (j : Job) (p t : ℕ) → total_of (measure_of j.plan) (rows_of j p t) ≡ total_over (mixing_of j.plan) j.graph (own_vertices j p) t
unfolding total_of rows_of total_over estimate_at
total_is j p t = grind (arith, sum_mapped)

-- the sums gain that of the next superstep
sums_more : (j : Job) (p t : ℕ) → sums_of j p (t + 1) ≡ sums_of j p t ++ total_over (mixing_of j.plan) j.graph (own_vertices j p) (t + 1) ∷ []
unfolding sums_of
sums_more j p t = map-range_with_len_more (λ i. total_over (mixing_of j.plan) j.graph (own_vertices j p) i) 0 (t + 1) (t + 1) (omega arith)

-- all sums
pub next_sums_are : (j : Job) (p t : ℕ) (v : State) (rows : List (List ℕ)) → StandsFor j p t v → rows ≡ rows_of j p (t + 1) → v.sums ++ total_of (measure_of v.part.plan) rows ∷ [] ≡ sums_of j p (t + 1)
next_sums_are j p t v rows h is = grind (arith, plan_is, total_is, sums_more)
