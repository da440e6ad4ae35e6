-- The predecessors that a graph of lists has are those lists.
use Rattle.std.proofs.Common.{◌≡◌, ◌≢◌, ℕ, zero, suc, ◌+◌, ◌<◌, ◌≤◌, Bool, true, false, ◌&&◌, ◌||◌, ◌==◌, nat_eq, List, [], ◌∷◌, ◌++◌, length, map, get_or, refl, ap, arith, inl, inr, sym, subst, ◌∙◌, tests}
use Rattle.std.specs.List.{list_any, filter, flat_map, range_with_len, sum_by, AllByRecursion}
use Rattle.std.proofs.lemmas.List.Elements.{filter_agree}
use Rattle.std.proofs.lemmas.List.{length-map, length-append}
use Rattle.std.proofs.lemmas.List.Sums.{sum_by-cons}
use Rattle.std.proofs.lemmas.List.Folds.{list_any-append}
use Rattle.std.proofs.lemmas.Bool.{cases_lt}
use Rattle.ball_model.specs.Graph.{IsGraph, is_edge, is_counted, preds_of, listed_edges, counted_vertices}
use Rattle.graph.specs.Feeding.{edges_into}
use Rattle.graph.specs.Links.{Ascends, AllAscend, edges_from, graph_of}
use Rattle.std.proofs.Math.Bool.{and-true, and-false, or-false}
use Rattle.ball_model.proofs.CountedLemmas.{is_kept}
use Rattle.graph.proofs.RangeLemmas.{filter_range-same}

-- the edges to one vertex
pub any_here : (ps : List ℕ) (y x : ℕ) → list_any (λ (e : ℕ × ℕ). (e.0 == y) && (e.1 == x)) (map (λ p. (p, x)) ps) ≡ list_any (λ p. p == y) ps
any_here [] y x = refl
any_here (p ∷ ps) y x =
    let same : nat_eq x x ≡ true = search (tests, arith) in
    rw (same, and-true (p == y), any_here ps y x) refl

pub any_elsewhere : (ps : List ℕ) (y a x : ℕ) → a ≢ x → list_any (λ (e : ℕ × ℕ). (e.0 == y) && (e.1 == x)) (map (λ p. (p, a)) ps) ≡ false
any_elsewhere [] y a x apart = refl
any_elsewhere (p ∷ ps) y a x apart =
    let other : nat_eq a x ≡ false = search (tests, arith) in
    rw (other, and-false (p == y), any_elsewhere ps y a x apart) refl

-- no edge leads below the first vertex
any_before : (lists : List (List ℕ)) (a y x : ℕ) → x < a → list_any (λ (e : ℕ × ℕ). (e.0 == y) && (e.1 == x)) (edges_from a lists) ≡ false
unfolding edges_from
any_before [] a y x lt = refl
any_before (ps ∷ rest) a y x lt =
    let apart : a ≢ x = omega arith in
    list_any-append (λ (e : ℕ × ℕ). (e.0 == y) && (e.1 == x)) (map (λ p. (p, a)) ps) (edges_from (a + 1) rest)
    ∙ rw (any_elsewhere ps y a x apart) (any_before rest (a + 1) y x (omega arith))

pub any_edges : (lists : List (List ℕ)) (a y i : ℕ) → i < length lists → list_any (λ (e : ℕ × ℕ). (e.0 == y) && (e.1 == a + i)) (edges_from a lists) ≡ list_any (λ p. p == y) (get_or lists i [])
unfolding edges_from
any_edges [] a y i lt = absurd (omega arith)
any_edges (ps ∷ rest) a y zero lt =
    let here : a + 0 ≡ a = omega arith in
    rw here (list_any-append (λ (e : ℕ × ℕ). (e.0 == y) && (e.1 == a)) (map (λ p. (p, a)) ps) (edges_from (a + 1) rest)
    ∙ rw (any_here ps y a, any_before rest (a + 1) y a (omega arith)) (or-false (list_any (λ p. p == y) ps)))
any_edges (ps ∷ rest) a y (suc i) lt =
    let apart : a ≢ a + suc i = omega arith in
    let moved : a + suc i ≡ (a + 1) + i = omega arith in
    list_any-append (λ (e : ℕ × ℕ). (e.0 == y) && (e.1 == a + suc i)) (map (λ p. (p, a)) ps) (edges_from (a + 1) rest)
    ∙ rw (any_elsewhere ps y a (a + suc i) apart, moved) (any_edges rest (a + 1) y i (omega arith))

-- a filter of a range that keeps what a list has
absent : (lo n y : ℕ) (ps : List ℕ) → Ascends lo n ps → y < lo → list_any (λ p. p == y) ps ≡ false
unfolding Ascends
absent lo n y [] asc lt = refl
absent lo n y (p ∷ ps) asc lt =
    let apart : nat_eq p y ≡ false = search (tests, arith, asc.0) in
    rw apart (absent (p + 1) n y ps asc.2 (omega (arith, asc.0)))

filter-same : (p q : ℕ → Bool) (a n : ℕ) → ((k : ℕ) → a ≤ k → p k ≡ q k) → filter p (range_with_len a n) ≡ filter q (range_with_len a n)
filter-same p q a zero h = refl
filter-same p q a (suc n) h = rw (h a (omega arith), filter-same p q (a + 1) n (λ k le. h k (omega arith))) refl

pub kept : (lo k : ℕ) (ps : List ℕ) → Ascends lo (lo + k) ps → filter (λ y. list_any (λ p. p == y) ps) (range_with_len lo k) ≡ ps
unfolding Ascends
kept lo zero [] asc = refl
kept lo zero (p ∷ ps) asc = absurd (omega (arith, asc.0, asc.1))
kept lo (suc k) [] asc = kept (lo + 1) k [] tt
kept lo (suc k) (p ∷ ps) asc =
    elim (cases_lt lo p) [
      | inl above ↦
          let apart : nat_eq p lo ≡ false = search (tests, arith) in
          let e : lo + suc k ≡ (lo + 1) + k = omega arith in
          let up : Ascends (lo + 1) ((lo + 1) + k) (p ∷ ps) = (omega arith, omega (arith, asc.1), subst (λ (m : ℕ). Ascends (p + 1) m ps) e asc.2) in
          rw (apart, absent (p + 1) (lo + suc k) lo ps asc.2 (omega arith)) (kept (lo + 1) k (p ∷ ps) up)
      | inr below ↦
          let here : p ≡ lo = omega (arith, asc.0) in
          let same : nat_eq p lo ≡ true = search (tests, arith, here) in
          let e : lo + suc k ≡ (p + 1) + k = omega (arith, here) in
          let rest : filter (λ y. list_any (λ q. q == y) ps) (range_with_len (p + 1) k) ≡ ps = kept (p + 1) k ps (subst (λ (m : ℕ). Ascends (p + 1) m ps) e asc.2) in
          let others : filter (λ y. (p == y) || list_any (λ q. q == y) ps) (range_with_len (p + 1) k) ≡ filter (λ y. list_any (λ q. q == y) ps) (range_with_len (p + 1) k) =
          filter-same (λ y. (p == y) || list_any (λ q. q == y) ps) (λ y. list_any (λ q. q == y) ps) (p + 1) k (λ j le. let apart : nat_eq p j ≡ false = search (tests, arith) in rw apart refl) in
          rw same (subst (λ (m : ℕ). (m ∷ filter (λ y. (p == y) || list_any (λ q. q == y) ps) (range_with_len (m + 1) k)) ≡ p ∷ ps) here (ap (λ z. p ∷ z) (others ∙ rest)))
    ]

pub all_ascend-at : (n : ℕ) (lists : List (List ℕ)) (i : ℕ) → AllAscend n lists → i < length lists → Ascends 0 n (get_or lists i [])
unfolding AllAscend
all_ascend-at n [] i asc lt = absurd (omega arith)
all_ascend-at n (ps ∷ rest) zero asc lt = asc.0
all_ascend-at n (ps ∷ rest) (suc i) asc lt = all_ascend-at n rest i asc.1 (omega arith)

-- the predecessors of x are its list
pub preds_of-graph : (lists : List (List ℕ)) (marks : List Bool) (x : ℕ) → AllAscend (length lists) lists → x < length lists → preds_of (graph_of lists marks) x ≡ get_or lists x []
preds_of-graph lists marks x asc lt =
    filter_agree (λ y. is_edge (graph_of lists marks) y x) (λ y. list_any (λ p. p == y) (get_or lists x [])) (λ y. let at : 0 + x ≡ x = omega arith in subst (λ (k : ℕ). list_any (λ (e : ℕ × ℕ). (e.0 == y) && (e.1 == k)) (edges_from 0 lists) ≡ list_any (λ p. p == y) (get_or lists x [])) at (any_edges lists 0 y x lt)) (range_with_len 0 (length lists))
    ∙ kept 0 (length lists) (get_or lists x []) (let whole : length lists ≡ 0 + length lists = omega arith in subst (λ (m : ℕ). Ascends 0 m (get_or lists x [])) whole (all_ascend-at (length lists) lists x asc lt))

-- each edge joins two vertices
ends_here : (lo n a : ℕ) (ps : List ℕ) (rest : List (ℕ × ℕ)) → Ascends lo n ps → a < n → AllByRecursion (λ (e : ℕ × ℕ). (e.0 < n) × (e.1 < n)) rest → AllByRecursion (λ (e : ℕ × ℕ). (e.0 < n) × (e.1 < n)) (map (λ y. (y, a)) ps ++ rest)
unfolding Ascends
ends_here lo n a [] rest asc lt more = more
ends_here lo n a (p ∷ ps) rest asc lt more = ((asc.1, lt), ends_here (p + 1) n a ps rest asc.2 lt more)

ends_below : (lists : List (List ℕ)) (a n : ℕ) → AllAscend n lists → a + length lists ≤ n → AllByRecursion (λ (e : ℕ × ℕ). (e.0 < n) × (e.1 < n)) (edges_from a lists)
unfolding edges_from AllAscend
ends_below [] a n asc le = tt
ends_below (ps ∷ rest) a n asc le = ends_here 0 n a ps (edges_from (a + 1) rest) asc.0 (omega arith) (ends_below rest (a + 1) n asc.1 (omega arith))

-- the edges of lists that a function gives
pub edges_by : (lists : List (List ℕ)) (f : ℕ → List ℕ) (a : ℕ) → ((k : ℕ) → k < length lists → get_or lists k [] ≡ f (a + k)) →
    edges_from a lists ≡ flat_map (λ x. map (λ y. (y, x)) (f x)) (range_with_len a (length lists))
unfolding edges_from
edges_by [] f a h = refl
edges_by (ps ∷ rest) f a h =
    let at : a + 0 ≡ a = omega arith in
    let here : ps ≡ f a = h 0 (omega arith) ∙ ap f at in
    let later = edges_by rest f (a + 1) (λ k lt. let moved : a + suc k ≡ (a + 1) + k = omega arith in h (suc k) (omega arith) ∙ ap f moved) in
    rw (later, here) refl

-- a vertex is counted by its mark
pub counted-by-mark : (lists : List (List ℕ)) (marks : List Bool) (v : ℕ) → v < length lists → is_counted (graph_of lists marks) v ≡ get_or marks v true
counted-by-mark lists marks v lt = is_kept (λ k. get_or marks k true) 0 (length lists) v (omega arith) (omega arith)

-- a graph of ascending lists is one
pub graph_of-IsGraph : (lists : List (List ℕ)) (marks : List Bool) → AllAscend (length lists) lists → IsGraph (graph_of lists marks)
unfolding listed_edges counted_vertices
graph_of-IsGraph lists marks asc = record {
  ends = ends_below lists 0 (length lists) asc (omega arith);
  listed = edges_by lists (preds_of (graph_of lists marks)) 0 (λ k lt. let at : 0 + k ≡ k = omega arith in rw at (sym (preds_of-graph lists marks k asc lt)));
  counted = filter_range-same _ _ 0 (length lists) (length lists) (omega arith) (λ k lt. sym (counted-by-mark lists marks k lt));
}

-- the edges are as many as the elements of the lists
pub length-edges : (lists : List (List ℕ)) (a : ℕ) → length (edges_from a lists) ≡ sum_by length lists
unfolding edges_from
length-edges [] a = refl
length-edges (ps ∷ rest) a =
    let here : length (edges_into a ps) ≡ length ps = simp length-map in
    omega (arith, length-append (edges_into a ps) (edges_from (a + 1) rest), here, length-edges rest (a + 1), sum_by-cons length ps rest)

pub ascends-below : (lo n : ℕ) (ps : List ℕ) (k d : ℕ) → Ascends lo n ps → k < length ps → get_or ps k d < n
unfolding Ascends
ascends-below lo n [] k d asc lt = absurd (omega arith)
ascends-below lo n (p ∷ ps) zero d asc lt = asc.1
ascends-below lo n (p ∷ ps) (suc k) d asc lt = ascends-below (p + 1) n ps k d asc.2 (omega arith)

-- each predecessor is a vertex
pub below_at : (n : ℕ) (lists : List (List ℕ)) (x : ℕ) → AllAscend n lists → x < length lists → (k d : ℕ) → k < length (get_or lists x []) → get_or (get_or lists x []) k d < n
below_at n lists x asc lt k d h = ascends-below 0 n (get_or lists x []) k d (all_ascend-at n lists x asc lt) h
