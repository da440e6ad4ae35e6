-- One more record, and the network that all of them make.
use Rattle.std.proofs.Common.{◌≡◌, ℕ, zero, suc, ◌+◌, ◌<◌, ◌≤◌, ◌==◌, ◌&&◌, ◌||◌, Bool, true, false, not, if◌then◌else◌, List, [], ◌∷◌, ◌++◌, length, map, get_or, refl, ap, ap₂, arith, sym, subst, ◌∙◌}
use Rattle.std.specs.List.{list_any, filter, flat_map, range_with_len}
use Rattle.std.specs.Str.{bytes_eq}
use Rattle.std.specs.Cmp.Lexicographic.{same_text}
use Rattle.std.proofs.lemmas.List.{append-nil, append_assoc, map-append}
use Rattle.std.proofs.lemmas.List.Elements.{filter-append}
use Rattle.std.proofs.lemmas.Grind.{flat_map-append}
use Rattle.std.proofs.lemmas.Map.Views.{any-filter_same}
use Rattle.std.proofs.lemmas.Bool.{not_from_false, eqb-true, eq-eqb}
use Rattle.std.proofs.Math.Bool.{and_comm}
use Rattle.ball_model.specs.Input.{distinct, labels_of, leads, network_of}
use Rattle.std.specs.Cmp.{both_ways}
use Rattle.graph.specs.Edges.{AllBelow, edge_of, graph_of_edges}
use Rattle.graph.specs.declared.edge.Edge.{Edge}
use Rattle.graph.specs.Labels.{with_label}
use Rattle.graph.specs.Making.{AddsEdge}
use Rattle.edgelist.specs.Reading.{Link, link_in, links_in, link_of, IsReadAs}
use Rattle.ball_model.proofs.BoolLemmas.{by_cases}
use Rattle.graph.proofs.LabelLemmas.{text_same, with_label-at, with_label-longer, Apart, apart-labels, apart-at}
use Rattle.graph.proofs.RangeLemmas.{filter_range-same}
use Rattle.graph.proofs.MakingLemmas.{below_more, edge-below}

-- a label that another one is not is found behind the filter or not, as before it
any_kept : (x y : List ℕ) (ds : List (List ℕ)) → bytes_eq x y ≡ false → list_any (λ l. bytes_eq l y) (filter (λ z. not (bytes_eq x z)) ds) ≡ list_any (λ l. bytes_eq l y) ds
any_kept x y ds e = any-filter_same (λ l. bytes_eq l y) (λ z. not (bytes_eq x z)) true
    (λ k on. ap (λ (z : List ℕ). not (bytes_eq x z)) (same_text k y (sym on)) ∙ not_from_false (bytes_eq x y) e) ds

put_other : (b : Bool) (x y : List ℕ) (ds : List (List ℕ)) → bytes_eq x y ≡ false → (x ∷ filter (λ z. not (bytes_eq x z)) (if b then ds else ds ++ y ∷ [])) ≡ (if b then (x ∷ filter (λ z. not (bytes_eq x z)) ds) else (x ∷ filter (λ z. not (bytes_eq x z)) ds) ++ y ∷ [])
put_other true x y ds e = refl
put_other false x y ds e = rw (filter-append (λ z. not (bytes_eq x z)) ds (y ∷ []), e) refl

put_same : (b : Bool) (x y : List ℕ) (ds : List (List ℕ)) → bytes_eq x y ≡ true → filter (λ z. not (bytes_eq x z)) (if b then ds else ds ++ y ∷ []) ≡ filter (λ z. not (bytes_eq x z)) ds
put_same true x y ds e = refl
put_same false x y ds e = rw (filter-append (λ z. not (bytes_eq x z)) ds (y ∷ []), e, append-nil) refl

distinct-push : (xs : List (List ℕ)) (y : List ℕ) → distinct (xs ++ y ∷ []) ≡ with_label (distinct xs) y
unfolding distinct
distinct-push [] y = refl
distinct-push (x ∷ xs) y =
    by_cases (bytes_eq x y) _
    (λ same. rw (distinct-push xs y, put_same (list_any (λ l. bytes_eq l y) (distinct xs)) x y (distinct xs) same, same) refl)
    (λ apart. rw (distinct-push xs y, put_other (list_any (λ l. bytes_eq l y) (distinct xs)) x y (distinct xs) apart, apart, any_kept x y (distinct xs) apart) refl)

concat_push : (rs : List (List (List ℕ))) (r : List (List ℕ)) → flat_map (λ s. s) (rs ++ r ∷ []) ≡ flat_map (λ s. s) rs ++ r
concat_push rs r = flat_map-append (λ s. s) rs (r ∷ []) ∙ ap (λ (l : List (List ℕ)). flat_map (λ s. s) rs ++ l) (append-nil r)

pub labels_of-one : (rs : List (List (List ℕ))) (a : List ℕ) → labels_of (rs ++ (a ∷ []) ∷ []) ≡ with_label (labels_of rs) a
unfolding labels_of
labels_of-one rs a = ap distinct (concat_push rs (a ∷ [])) ∙ distinct-push (flat_map (λ s. s) rs) a

pub labels_of-two : (rs : List (List (List ℕ))) (a b : List ℕ) → labels_of (rs ++ (a ∷ b ∷ []) ∷ []) ≡ with_label (with_label (labels_of rs) a) b
unfolding labels_of
labels_of-two rs a b =
    ap distinct (concat_push rs (a ∷ b ∷ []) ∙ sym (append_assoc (flat_map (λ s. s) rs) (a ∷ []) (b ∷ [])))
    ∙ distinct-push (flat_map (λ s. s) rs ++ a ∷ []) b ∙ ap (λ (ls : List (List ℕ)). with_label ls b) (distinct-push (flat_map (λ s. s) rs) a)

links_push : (rs : List (List (List ℕ))) (r : List (List ℕ)) → links_in (rs ++ r ∷ []) ≡ links_in rs ++ link_in r
unfolding links_in
links_push [] r = append-nil (link_in r)
links_push (s ∷ rs) r = rw (links_push rs r) (sym (append_assoc (link_in s) (links_in rs) (link_in r)))

named_same : (old new : List (List ℕ)) (edges : List Edge) → ((k : ℕ) → k < length old → get_or new k [] ≡ get_or old k []) → AllBelow (length old) edges → map (link_of new) edges ≡ map (link_of old) edges
named_same old new [] same below = refl
named_same old new (e ∷ es) same below = rw (same e.target below.0.0, same e.source below.0.1, named_same old new es same below.1) refl

abbrev link_to : List ℕ → List ℕ → Link
link_to target source = record { target = target; source = source }

pub read-none : IsReadAs [] [] []
unfolding labels_of distinct links_in
read-none = record { labels_are = refl; below = tt; edges_are = refl }

-- a record of one label
pub read-one : (records : List (List (List ℕ))) (old new : List (List ℕ)) (edges edges' : List Edge) (a : List ℕ) → IsReadAs records old edges → new ≡ with_label old a → edges' ≡ edges →
    IsReadAs (records ++ (a ∷ []) ∷ []) new edges'
read-one records old new edges edges' a so is same =
    subst (λ (ps : List Edge). IsReadAs (records ++ (a ∷ []) ∷ []) new ps) (sym same) (record {
      labels_are = is ∙ ap (λ (ls : List (List ℕ)). with_label ls a) so.labels_are ∙ sym (labels_of-one records a);
      below = below_more (length old) (length new) edges (omega (arith, with_label-longer old a, ap length is)) so.below;
      edges_are = named_same old new edges (λ k lt. ap (λ (ls : List (List ℕ)). get_or ls k []) is ∙ with_label-at old a k lt) so.below ∙ so.edges_are ∙ sym (append-nil (links_in records)) ∙ sym (links_push records (a ∷ []));
    })

-- a record of two labels
pub read-two : (records : List (List (List ℕ))) (old new : List (List ℕ)) (edges edges' : List Edge) (a b : List ℕ) → IsReadAs records old edges → AddsEdge a b old edges new edges' →
    IsReadAs (records ++ (a ∷ b ∷ []) ∷ []) new edges'
read-two records old new edges edges' a b so adds =
    let mid = with_label old a in
    let i = adds.from in
    let j = adds.to in
    let longer_mid : length old ≤ length mid = with_label-longer old a in
    let longer_new : length mid ≤ length new = omega (arith, with_label-longer mid b, ap length adds.labels_are) in
    let keep_new : (k : ℕ) → k < length mid → get_or new k [] ≡ get_or mid k [] = λ k lt. ap (λ (ls : List (List ℕ)). get_or ls k []) adds.labels_are ∙ with_label-at mid b k lt in
    let keep : (k : ℕ) → k < length old → get_or new k [] ≡ get_or old k [] = λ k lt. keep_new k (omega arith) ∙ with_label-at old a k lt in
    let all_labels : new ≡ labels_of (records ++ (a ∷ b ∷ []) ∷ []) =
    adds.labels_are ∙ ap (λ (ls : List (List ℕ)). with_label (with_label ls a) b) so.labels_are ∙ sym (labels_of-two records a b) in
    let here : link_of new (edge_of j i) ≡ record { target = b; source = a } = ap₂ (λ (x y : List ℕ). link_to x y) adds.to_is (keep_new i adds.from_within ∙ adds.from_is) in
    record {
      labels_are = all_labels;
      below = edge-below old new edges edges' a b adds so.below;
      edges_are =
          ap (map (link_of new)) adds.edges_are ∙ map-append (link_of new) edges (edge_of j i ∷ [])
          ∙ ap₂ (λ (xs ys : List Link). xs ++ ys) (named_same old new edges keep so.below ∙ so.edges_are) (ap (λ (l : Link). l ∷ []) here)
          ∙ sym (links_push records (a ∷ b ∷ []));
    }

label-eq : (labels : List (List ℕ)) (i j : ℕ) → Apart labels → i < length labels → j < length labels → bytes_eq (get_or labels i []) (get_or labels j []) ≡ (i == j)
label-eq labels i j h lo hi =
    both_ways _ _
    (λ t. let e : i ≡ j = apart-at labels i j h lo hi (same_text _ _ (sym t)) in subst (λ (k : ℕ). (i == k) ≡ true) e (eq-eqb i i refl))
    (λ t. let e : i ≡ j = eqb-true i j t in subst (λ (k : ℕ). bytes_eq (get_or labels i []) (get_or labels k []) ≡ true) e (text_same (get_or labels i [])))

-- the records that lead from one label to another
leads_one : (r : List (List ℕ)) (from to : List ℕ) (tail : List Link) → list_any (λ l. bytes_eq l.target to && bytes_eq l.source from) (link_in r ++ tail) ≡ (leads from to r || list_any (λ l. bytes_eq l.target to && bytes_eq l.source from) tail)
leads_one [] from to tail = refl
leads_one (a ∷ []) from to tail = refl
leads_one (a ∷ b ∷ more) from to tail = rw (and_comm (bytes_eq b to) (bytes_eq a from)) refl

leads_links : (rs : List (List (List ℕ))) (from to : List ℕ) → list_any (λ l. bytes_eq l.target to && bytes_eq l.source from) (links_in rs) ≡ list_any (leads from to) rs
unfolding links_in
leads_links [] from to = refl
leads_links (r ∷ rs) from to = leads_one r from to (links_in rs) ∙ ap (λ b. leads from to r || b) (leads_links rs from to)

numbers_any : (labels : List (List ℕ)) (edges : List Edge) (x y : ℕ) → Apart labels → x < length labels → y < length labels → AllBelow (length labels) edges →
    list_any (λ l. bytes_eq l.target (get_or labels x []) && bytes_eq l.source (get_or labels y [])) (map (link_of labels) edges) ≡ list_any (λ e. (e.target == x) && (e.source == y)) edges
numbers_any labels [] x y h lo hi below = refl
numbers_any labels (e ∷ es) x y h lo hi below =
    rw (label-eq labels e.target x h below.0.0 lo, label-eq labels e.source y h below.0.1 hi, numbers_any labels es x y h lo hi below.1) refl

edges_range-same : (f h : ℕ → List (ℕ × ℕ)) (a n bound : ℕ) → a + n ≤ bound → ((k : ℕ) → k < bound → f k ≡ h k) → flat_map f (range_with_len a n) ≡ flat_map h (range_with_len a n)
edges_range-same f h a zero bound le e = refl
edges_range-same f h a (suc n) bound le e = rw (e a (omega arith), edges_range-same f h (a + 1) n bound (omega arith) e) refl

-- what is read is the network of the records
pub network-is : (records : List (List (List ℕ))) (labels : List (List ℕ)) (edges : List Edge) → IsReadAs records labels edges →
    network_of records ≡ record { graph = graph_of_edges (length labels) edges; labels = labels }
unfolding network_of
network-is records labels edges so =
    let n = length labels in
    let h : Apart labels = subst Apart (sym so.labels_are) (apart-labels records) in
    let one : (x y : ℕ) → x < n → y < n → list_any (leads (get_or labels y []) (get_or labels x [])) records ≡ list_any (λ e. (e.target == x) && (e.source == y)) edges =
    λ x y hi lo. sym (leads_links records (get_or labels y []) (get_or labels x []))
    ∙ ap (list_any (λ l. bytes_eq l.target (get_or labels x []) && bytes_eq l.source (get_or labels y []))) (sym so.edges_are)
    ∙ numbers_any labels edges x y h hi lo so.below in
    let same_edges : flat_map (λ x. map (λ y. (y, x)) (filter (λ y. list_any (leads (get_or labels y []) (get_or labels x [])) records) (range_with_len 0 n))) (range_with_len 0 n)
    ≡ flat_map (λ x. map (λ y. (y, x)) (filter (λ y. list_any (λ e. (e.target == x) && (e.source == y)) edges) (range_with_len 0 n))) (range_with_len 0 n) =
    edges_range-same _ _ 0 n n (omega arith) (λ x hi. ap (map (λ y. (y, x))) (filter_range-same _ _ 0 n n (omega arith) (λ y lo. one x y hi lo))) in
    rw (← so.labels_are, same_edges) refl
