-- The figures of some vertices, as they stand among those of all.
use Rattle.std.proofs.Common.{◌≡◌, ℕ, zero, suc, ◌+◌, ◌-◌, ◌*◌, ◌/◌, ◌%◌, ◌<◌, ◌≤◌, List, [], ◌∷◌, length, map, min, get_or, take, drop, refl, ap, arith, sym, ◌∙◌, subst}
use Rattle.std.specs.List.{flat_map, range_with_len}
use Rattle.std.proofs.Math.Nat.{div-lt_iff_lt-mul, div-mul-le_self}
use Rattle.std.proofs.lemmas.Grind.{div_ceil_times}
use Rattle.std.proofs.lemmas.Nat.{le-div}
use Rattle.std.proofs.lemmas.List.{get_or-drop, get_or-map, get_or-take, length-drop, length-map, length-take}
use Rattle.figures.specs.declared.ends.Figures.{Figures}
use Rattle.ball_model.specs.PlanValue.{part_size}
use Rattle.ball_model.specs.State.{State}
use Rattle.replica.proofs.IndexLemmas.Own.{place_below}
use Rattle.report.specs.Parts.{AreAmong, figures_among, figures_at, figures_in, figures_line, zero_figures, vertices_text}
use Rattle.report.proofs.WholeLemmas.{HaveSizes}

-- the vertices from `from` on and below `to` have their places from from / parts on and below to / parts, rounded up
pub places_from : (parts from x : ℕ) → 0 < parts → from ≤ x → from / parts ≤ x / parts
places_from parts from x some le =
    let below : from / parts * parts ≤ from = div-mul-le_self from parts in
    le-div (from / parts) x parts some (omega arith)

pub places_to : (parts to x : ℕ) → 0 < parts → x < to → x / parts < to / parts + min 1 (to % parts)
places_to parts to x some lt =
    let above = (div_ceil_times to parts some).0 in
    (div-lt_iff_lt-mul {k = parts} {x = x} {y = to / parts + min 1 (to % parts)} some).1 (omega arith)

-- a replica of some
pub a_replica : (vs : List State) → 0 < length vs → State
a_replica [] some = absurd (omega arith)
a_replica (v ∷ vs) some = v

-- the figures of the partition of vertex x
own_among : (first last x : ℕ) (vs : List State) (d : State) → 0 < length vs →
    get_or (map (figures_among first last) vs) (x % length vs) [] ≡ take (last - first) (drop first (get_or (map figures_in vs) (x % length vs) []))
unfolding figures_among
own_among first last x vs d some =
    let within : x % length vs < length vs = omega arith in
    get_or-map (figures_among first last) vs (x % length vs) d [] within
    ∙ ap (λ (l : List Figures). take (last - first) (drop first l)) (sym (get_or-map figures_in vs (x % length vs) d [] within))

-- vertex x has its place among them
pub has_place : (n first last x : ℕ) (vs : List State) (d : State) (lists : List (List Figures)) → lists ≡ map (figures_among first last) vs → HaveSizes n (map figures_in vs) → 0 < length vs → x < n →
    first ≤ x / length vs → x / length vs < last → AreAmong first lists x
has_place n first last x vs d lists are sizes some inside low high =
    let count : length lists ≡ length vs = ap length are ∙ length-map vs (figures_among first last) in
    let whole : length (map figures_in vs) ≡ length vs = length-map vs figures_in in
    let all : List Figures = get_or (map figures_in vs) (x % length vs) [] in
    let within : x % length vs < length (map figures_in vs) = omega arith in
    let size : length all ≡ part_size n (length vs) (x % length vs) = sizes.each (x % length vs) within ∙ ap (λ k. part_size n k (x % length vs)) whole in
    let below : x / length vs < part_size n (length vs) (x % length vs) = place_below n (length vs) x some inside in
    let own : get_or lists (x % length vs) [] ≡ take (last - first) (drop first all) =
    ap (λ (l : List (List Figures)). get_or l (x % length vs) []) are ∙ own_among first last x vs d some in
    let taken : length (take (last - first) (drop first all)) ≡ min (last - first) (length (drop first all)) = length-take (last - first) (drop first all) in
    let left : length (drop first all) ≡ length all - first = length-drop first all in
    let long : x / length vs - first < length (get_or lists (x % length vs) []) = subst (λ (l : List Figures). x / length vs - first < length l) (sym own) (omega arith) in
    record {
      some = omega arith;
      from = subst (λ k. first ≤ x / k) (sym count) low;
      to = subst (λ k. x / k - first < length (get_or lists (x % k) [])) (sym count) long;
    }

-- and it has there what it has among all
pub same_figures : (first last x : ℕ) (vs : List State) (d : State) → 0 < length vs → first ≤ x / length vs → x / length vs < last →
    figures_at first (map (figures_among first last) vs) x ≡ figures_at 0 (map figures_in vs) x
same_figures first last x vs d some low high =
    let count : length (map (figures_among first last) vs) ≡ length vs = length-map vs (figures_among first last) in
    let whole : length (map figures_in vs) ≡ length vs = length-map vs figures_in in
    let all : List Figures = get_or (map figures_in vs) (x % length vs) [] in
    let at : first + (x / length vs - first) ≡ x / length vs - 0 = omega arith in
    ap (λ k. get_or (get_or (map (figures_among first last) vs) (x % k) []) (x / k - first) zero_figures) count
    ∙ ap (λ (l : List Figures). get_or l (x / length vs - first) zero_figures) (own_among first last x vs d some)
    ∙ get_or-take (last - first) (drop first all) (x / length vs - first) zero_figures (omega arith)
    ∙ get_or-drop first all (x / length vs - first) zero_figures
    ∙ ap (λ i. get_or all i zero_figures) at
    ∙ ap (λ k. get_or (get_or (map figures_in vs) (x % k) []) (x / k - 0) zero_figures) (sym whole)

lines_same : (f h : ℕ → List ℕ) (from a n to : ℕ) → from ≤ a → a + n ≤ to → ((x : ℕ) → from ≤ x → x < to → f x ≡ h x) → flat_map f (range_with_len a n) ≡ flat_map h (range_with_len a n)
lines_same f h from a zero to low high e = refl
lines_same f h from a (suc n) to low high e = rw (e a low (omega arith), lines_same f h from (a + 1) n to (omega arith) (omega arith) e) refl

-- lines of the same figures are the same
pub same_lines : (labels : List (List ℕ)) (first from to : ℕ) (lists all : List (List Figures)) → from ≤ to →
    ((x : ℕ) → from ≤ x → x < to → figures_at first lists x ≡ figures_at 0 all x) →
    vertices_text labels first lists from (to - from) ≡ vertices_text labels 0 all from (to - from)
unfolding vertices_text
same_lines labels first from to lists all le same =
    lines_same (λ x. figures_line (get_or labels x []) (figures_at first lists x)) (λ x. figures_line (get_or labels x []) (figures_at 0 all x))
    from from (to - from) to (omega arith) (omega arith)
    (λ x low high. ap (figures_line (get_or labels x [])) (same x low high))
