-- Networks that count all of their vertices, and what is stored of them.
use Rattle.std.proofs.Common.{◌≡◌, ℕ, ◌+◌, ◌≤◌, Bool, true, false, List, [], ◌∷◌, length, map, refl, ap, sym, ◌∙◌, arith, cond, eq-eqb}
use Rattle.std.specs.List.{filter, flat_map, range_with_len}
use Rattle.std.proofs.lemmas.Bool.{eqb-true}
use Rattle.std.proofs.lemmas.List.FromFn.{length-range_with_len}
use Rattle.ball_model.specs.Graph.{Graph, IsGraph, counted_vertices, counts_all, is_counted, listed_edges, preds_of}
use Rattle.ball_model.specs.Input.{Network}
use Rattle.graph.specs.Links.{edges_from, graph_of_lists}
use Rattle.graph.proofs.LinksLemmas.{edges_by}
use Rattle.stored.specs.Stored.{StoredValue, stored_of}
use Rattle.stored.proofs.StoredLemmas.{preds_at, preds_many}

-- what is stored of a network with these lists and labels
pub stored_is : (net : Network) (labels lists : List (List ℕ)) → net.labels ≡ labels → map (preds_of net.graph) (range_with_len 0 net.graph.vertices) ≡ lists → stored_of net ≡ record { labels = labels; preds = lists }
unfolding stored_of
stored_is net labels lists a b = rw (a, b) refl

pub preds_are : (v w : StoredValue) → v ≡ w → v.preds ≡ w.preds
preds_are v w e = ap (λ (x : StoredValue). x.preds) e

pub counts_whole : (g : Graph) (lists : List (List ℕ)) → g ≡ graph_of_lists lists → counts_all g ≡ true
counts_whole g lists is = rw is (eq-eqb (length (range_with_len 0 (length lists))) (length lists) (length-range_with_len 0 (length lists)))

few_kept : (p : ℕ → Bool) (xs : List ℕ) → length (filter p xs) ≤ length xs
few_kept p [] = omega arith
few_kept p (x ∷ xs) = by_cases (p x) (few_kept p xs)
  where
    by_cases : (keeps : Bool) → length (filter p xs) ≤ length xs → length (cond keeps (x ∷ filter p xs) (filter p xs)) ≤ length (x ∷ xs)
    by_cases true le = omega (arith, le)
    by_cases false le = omega (arith, le)

all_kept : (p : ℕ → Bool) (xs : List ℕ) → length (filter p xs) ≡ length xs → filter p xs ≡ xs
all_kept p [] e = refl
all_kept p (x ∷ xs) e = by_cases (p x) (all_kept p xs) (few_kept p xs) e
  where
    by_cases : (keeps : Bool) → (length (filter p xs) ≡ length xs → filter p xs ≡ xs) → length (filter p xs) ≤ length xs → length (cond keeps (x ∷ filter p xs) (filter p xs)) ≡ length (x ∷ xs)
        → cond keeps (x ∷ filter p xs) (filter p xs) ≡ x ∷ xs
    by_cases true rest le e = ap (λ (l : List ℕ). x ∷ l) (rest (omega (arith, e)))
    by_cases false rest le e = absurd (omega (arith, e, le))

whole_counted : (g : Graph) → IsGraph g → counts_all g ≡ true → g.counted ≡ range_with_len 0 g.vertices
unfolding counted_vertices
whole_counted g is all =
    let many = eqb-true (length g.counted) g.vertices all in
    is.counted ∙ all_kept (is_counted g) (range_with_len 0 g.vertices) (ap length (sym is.counted) ∙ many ∙ sym (length-range_with_len 0 g.vertices))

whole_edges : (net : Network) → IsGraph net.graph → net.graph.edges ≡ edges_from 0 (stored_of net).preds
unfolding listed_edges stored_of
whole_edges net is =
    let edges : ℕ → List (ℕ × ℕ) = λ x. map (λ y. (y, x)) (preds_of net.graph x) in
    let many = preds_many net in
    is.listed ∙ ap (λ (n : ℕ). flat_map edges (range_with_len 0 n)) (sym many)
    ∙ sym (edges_by (stored_of net).preds (preds_of net.graph) 0 (λ k lt. let at : 0 + k ≡ k = omega arith in rw at (preds_at net k (omega (arith, lt, many)))))

abbrev graph_with : ℕ → List (ℕ × ℕ) → List ℕ → Graph
graph_with n edges counted = record { vertices = n; edges = edges; counted = counted }

same_graph : (n m : ℕ) (edges others : List (ℕ × ℕ)) (counted those : List ℕ) → n ≡ m → edges ≡ others → counted ≡ those → graph_with n edges counted ≡ graph_with m others those
same_graph n m edges others counted those a b c = rw (a, b, c) refl

whole_graph : (net : Network) → IsGraph net.graph → counts_all net.graph ≡ true → net.graph ≡ graph_of_lists (stored_of net).preds
whole_graph net is all =
    let lists = (stored_of net).preds in
    let many = preds_many net in
    same_graph net.graph.vertices (length lists) net.graph.edges (edges_from 0 lists) net.graph.counted (range_with_len 0 (length lists)) (sym many) (whole_edges net is) (whole_counted net.graph is all ∙ ap (range_with_len 0) (sym many))

abbrev network_with : Graph → List (List ℕ) → Network
network_with graph labels = record { graph = graph; labels = labels }

same_parts : (g h : Graph) (xs ys : List (List ℕ)) → g ≡ h → xs ≡ ys → network_with g xs ≡ network_with h ys
same_parts g h xs ys a b = rw (a, b) refl

same_labels : (g net : Network) → stored_of g ≡ stored_of net → g.labels ≡ net.labels
unfolding stored_of
same_labels g net e = ap (λ (x : StoredValue). x.labels) e

-- a network that counts all of its vertices is known by what is stored of it
pub same_network : (g net : Network) → g.graph ≡ graph_of_lists (stored_of g).preds → IsGraph net.graph → counts_all net.graph ≡ true → stored_of g ≡ stored_of net → g ≡ net
same_network g net whole is all e =
    same_parts g.graph net.graph g.labels net.labels (whole ∙ ap graph_of_lists (preds_are (stored_of g) (stored_of net) e) ∙ sym (whole_graph net is all)) (same_labels g net e)
