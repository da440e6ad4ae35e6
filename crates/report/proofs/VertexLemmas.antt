-- The line of a vertex, from the figures of its partition.
use Rattle.std.proofs.Common.{◌≡◌, ℕ, zero, suc, ◌+◌, ◌-◌, ◌/◌, ◌%◌, ◌<◌, ◌≤◌, List, [], ◌∷◌, length, map, get_or, refl, ap, arith, sym, ◌∙◌}
use Rattle.std.specs.List.{range_with_len, flat_map, zip}
use Rattle.std.proofs.lemmas.List.{get_or-map, get_or_default, length-map}
use Rattle.figures.specs.declared.ends.Figures.{Figures}
use Rattle.figures.specs.Values.{figures_from, figures_of}
use Rattle.ball_model.specs.Counter.{ball_counter}
use Rattle.ball_model.specs.Supersteps.{estimate_at, tally_at}
use Rattle.ball_model.specs.PlanValue.{mixing_of}
use Rattle.ball_model.specs.Job.{Job}
use Rattle.ball_model.specs.Figures.{TallyValue, empty_of}
use Rattle.ball_model.specs.Report.{vertex_line, vertex_text}
use Rattle.ball_model.specs.State.{State, StandsFor, own_vertices, rows_of, tallies_of}
use Rattle.replica.proofs.IndexLemmas.Own.{at_own, place_below, vertex_at}
use Rattle.report.specs.Parts.{figures_at, figures_in, figures_line, true_figures, zero_figures, vertices_text}

-- two lists made of one
zip_made : {A B C D : Type 0} (f : B → C → D) (h : A → B) (k : A → C) (xs : List A) → map (λ p. f p.0 p.1) (zip (map h xs) (map k xs)) ≡ map (λ x. f (h x) (k x)) xs
zip_made f h k [] = refl
zip_made f h k (x ∷ xs) = ap (λ rest. f (h x) (k x) ∷ rest) (zip_made f h k xs)

-- the figures of a replica that stands for its partition
own_figures : (j : Job) (p t : ℕ) (v : State) → StandsFor j p t v → figures_in v ≡ map (true_figures j t) (own_vertices j p)
unfolding figures_in figures_from rows_of tallies_of
own_figures j p t v h =
    rw (h.rows, h.tallies)
    (zip_made (λ row (tally : TallyValue). figures_of tally.last row tally) (λ x. ball_counter (mixing_of j.plan) j.graph x t) (λ x. tally_at (mixing_of j.plan) j.graph x t) (own_vertices j p))

-- among those of all partitions
pub true_figures_at : (j : Job) (vs : List State) (t x : ℕ) (v : State) → 1 ≤ j.plan.parts → length vs ≡ j.plan.parts → x < j.graph.vertices → v ≡ get_or vs (x % j.plan.parts) v →
    StandsFor j (x % j.plan.parts) t v → figures_at 0 (map figures_in vs) x ≡ true_figures j t x
true_figures_at j vs t x v some count lt is h =
    let parts : ℕ = j.plan.parts in
    let long : length (map figures_in vs) ≡ parts = length-map vs figures_in ∙ count in
    let within : x % parts < length vs = omega arith in
    let below : x % parts < parts = omega arith in
    let at : x / parts - 0 ≡ x / parts = omega arith in
    ap (λ k. get_or (get_or (map figures_in vs) (x % k) []) (x / k - 0) zero_figures) long
    ∙ ap (λ i. get_or (get_or (map figures_in vs) (x % parts) []) i zero_figures) at
    ∙ ap (λ (l : List Figures). get_or l (x / parts) zero_figures)
    (get_or-map figures_in vs (x % parts) v [] within ∙ ap figures_in (sym is) ∙ own_figures j (x % parts) t v h)
    ∙ at_own (true_figures j t) j.graph.vertices parts (x % parts) (x / parts) zero_figures below (place_below j.graph.vertices parts x some lt)
    ∙ ap (true_figures j t) (vertex_at parts x some)

-- the line of these figures
pub line_is : (j : Job) (label : List ℕ) (t x : ℕ) → figures_line label (true_figures j t x) ≡ vertex_line label (tally_at (mixing_of j.plan) j.graph x t) (empty_of (ball_counter (mixing_of j.plan) j.graph x t))
unfolding figures_line vertex_line estimate_at
line_is j label t x = refl

-- lines made alike of each number of a range are the same
pub lines_same : (f h : ℕ → List ℕ) (a n bound : ℕ) → a + n ≤ bound → ((x : ℕ) → x < bound → f x ≡ h x) → flat_map f (range_with_len a n) ≡ flat_map h (range_with_len a n)
lines_same f h a zero bound le e = refl
lines_same f h a (suc n) bound le e = rw (e a (omega arith), lines_same f h (a + 1) n bound (omega arith) e) refl

-- the lines of all vertices
pub vertices_are : (j : Job) (vs : List State) (d : State) (labels : List (List ℕ)) (t n : ℕ) → 1 ≤ j.plan.parts → length vs ≡ j.plan.parts → n ≡ j.graph.vertices →
    ((p : ℕ) (d : State) → p < length vs → StandsFor j p t (get_or vs p d)) →
    vertices_text labels 0 (map figures_in vs) 0 n ≡ flat_map (λ x. vertex_text (mixing_of j.plan) j.graph labels t x) (range_with_len 0 n)
unfolding vertices_text vertex_text
vertices_are j vs d labels t n some count all stand =
    lines_same (λ x. figures_line (get_or labels x []) (figures_at 0 (map figures_in vs) x)) (λ x. vertex_text (mixing_of j.plan) j.graph labels t x) 0 n n (omega arith)
    (λ x lt.
    let k : ℕ = x % j.plan.parts in
    let within : k < length vs = omega arith in
    let v : State = get_or vs k d in
    ap (figures_line (get_or labels x [])) (true_figures_at j vs t x v some count (omega arith) (get_or_default vs k d v within) (stand k d within))
    ∙ line_is j (get_or labels x []) t x)
