-- Edges in any order.
use Rattle.std.proofs.Common.{◌≡◌, ℕ, ◌==◌, ◌&&◌, List, [], ◌∷◌, length, map, refl, ap, arith, sym}
use Rattle.std.specs.Prelude.{IsPermutation}
use Rattle.std.specs.List.{flat_map, list_any, range_with_len}
use Rattle.std.proofs.lemmas.List.Sorted.{list_any-IsPermutation}
use Rattle.graph.specs.Edges.{graph_of_edges, sources_of}
use Rattle.edgelist.specs.Reading.{AreWithin, network_by}
use Rattle.graph.specs.declared.edge.Edge.{Edge}
use Rattle.graph.proofs.RangeLemmas.{filter_range-same}
use Rattle.graph.proofs.SortLemmas.{below-same}

flat_map-same : (f g : ℕ → List (ℕ × ℕ)) (xs : List ℕ) → ((x : ℕ) → f x ≡ g x) → flat_map f xs ≡ flat_map g xs
flat_map-same f g [] same = refl
flat_map-same f g (x ∷ xs) same = rw (same x, flat_map-same f g xs same) refl

sources-moved : (n x : ℕ) (edges moved : List Edge) → IsPermutation edges moved → sources_of n moved x ≡ sources_of n edges x
sources-moved n x edges moved is =
    filter_range-same (λ y. list_any (λ e. (e.target == x) && (e.source == y)) moved) (λ y. list_any (λ e. (e.target == x) && (e.source == y)) edges) 0 n n (omega arith)
    (λ y lt. sym (list_any-IsPermutation (λ e. (e.target == x) && (e.source == y)) edges moved is))

graph-moved : (n : ℕ) (edges moved : List Edge) → IsPermutation edges moved → graph_of_edges n moved ≡ graph_of_edges n edges
graph-moved n edges moved is =
    let same = flat_map-same (λ x. map (λ y. (y, x)) (sources_of n moved x)) (λ x. map (λ y. (y, x)) (sources_of n edges x)) (range_with_len 0 n) (λ x. ap (λ (ys : List ℕ). map (λ y. (y, x)) ys) (sources-moved n x edges moved is)) in
    rw same refl

-- they say the same network
pub network-moved : (labels labels' : List (List ℕ)) (edges moved : List Edge) → labels' ≡ labels → IsPermutation edges moved → network_by labels' moved ≡ network_by labels edges
network-moved labels labels' edges moved same is = rw (same, graph-moved (length labels) edges moved is) refl

pub within-moved : (vertices n : ℕ) (labels labels' : List (List ℕ)) (edges moved : List Edge) → AreWithin vertices n labels edges → labels' ≡ labels → IsPermutation edges moved → length moved ≡ length edges → AreWithin vertices n labels' moved
within-moved vertices n labels labels' edges moved w same is long =
    let few = w.few_edges in
    rw same (record {
      below = below-same (length labels) moved edges (λ p. sym (list_any-IsPermutation p edges moved is)) w.below;
      few_labels = w.few_labels;
      few_edges = omega (arith, few, long);
    })
