-- What an edge list's network means.
use Rattle.std.proofs.Common.{◌≡◌, ◌∙◌, ℕ, zero, suc, ◌+◌, ◌<◌, Bool, true, false, not, ◌&&◌, ◌||◌, ◌==◌, nat_eq, List, [], ◌∷◌, ◌++◌, length, map, get_or, refl, ap, ap₂, arith, sym, subst}
use Rattle.std.specs.List.{list_any, filter, flat_map, range_with_len, position_or_len, AllByRecursion}
use Rattle.std.specs.Str.{bytes_eq}
use Rattle.std.specs.Cmp.Lexicographic.{same_text}
use Rattle.std.proofs.lemmas.List.{length-map}
use Rattle.std.proofs.lemmas.Bool.{eqb-true, not-true, not_from_false, false_from_ne_true}
use Rattle.std.proofs.lemmas.Map.Views.{any-filter_same}
use Rattle.std.proofs.lemmas.List.Folds.{list_any-append}
use Rattle.std.proofs.lemmas.List.FromFn.{length-range_with_len, get_or-map-range_with_len}
use Rattle.ball_model.specs.Graph.{Graph, IsGraph, is_edge}
use Rattle.ball_model.specs.Input.{distinct, labels_of, leads, network_of}
use Rattle.graph.specs.Laws.{LabelsAreDistinct, LabelsAreInOrder, LabelsAreFields, EdgesAreNamed, EdgesStandOnce, DeclaringAddsNoEdge, joins, label_at, vertex_at}
use Rattle.graph.specs.Links.{AllAscend, graph_of}
use Rattle.ball_model.proofs.BoolLemmas.{by_cases}
use Rattle.graph.proofs.LabelLemmas.{text_same, text-flip, place-within, place-none, present, apart-labels, apart-at}
use Rattle.graph.proofs.LinksLemmas.{any_edges, edges_by, graph_of-IsGraph}
use Rattle.graph.proofs.EdgeLemmas.{all_weaker, filter-ascends}
use Rattle.ball_model.proofs.CountedLemmas.{is_kept}
use Rattle.graph.proofs.RangeLemmas.{filter-all}

pub labels_are_distinct : LabelsAreDistinct
labels_are_distinct records v w lo hi same = apart-at (labels_of records) v w (apart-labels records) lo hi same

-- a label that another one is not is found behind the filter or not, as before it
any-kept : (l x : List ℕ) (ds : List (List ℕ)) → bytes_eq l x ≡ false → list_any (bytes_eq l) (filter (λ y. not (bytes_eq x y)) ds) ≡ list_any (bytes_eq l) ds
any-kept l x ds e = any-filter_same (bytes_eq l) (λ y. not (bytes_eq x y)) true
    (λ k on. ap (λ (z : List ℕ). not (bytes_eq x z)) (sym (same_text l k (sym on))) ∙ not_from_false (bytes_eq x l) (text-flip x l ∙ e)) ds

any-distinct : (l : List ℕ) (xs : List (List ℕ)) → list_any (bytes_eq l) (distinct xs) ≡ list_any (bytes_eq l) xs
unfolding distinct
any-distinct l [] = refl
any-distinct l (x ∷ xs) =
    by_cases (bytes_eq l x) _
    (λ t. rw t refl)
    (λ f. rw f (any-kept l x (distinct xs) f ∙ any-distinct l xs))

pub labels_are_fields : LabelsAreFields
unfolding labels_of
labels_are_fields records l = any-distinct l (flat_map (λ r. r) records)

-- the place of a label among some fields
abbrev place : List (List ℕ) → List ℕ → ℕ
place xs l = position_or_len (bytes_eq l) xs

-- each label appears before those that follow it
InOrder : List (List ℕ) → List (List ℕ) → Type 0
InOrder xs [] = Unit {0}
InOrder xs (d ∷ ds) = AllByRecursion (λ e. place xs d < place xs e) ds × InOrder xs ds

all-kept : (P : List ℕ → Type 0) (q : List ℕ → Bool) (ds : List (List ℕ)) → AllByRecursion P ds → AllByRecursion (λ e. (q e ≡ true) × P e) (filter q ds)
all-kept P q [] all = tt
all-kept P q (d ∷ ds) all =
    by_cases (q d) _
    (λ t. rw t ((t, all.0), all-kept P q ds all.1))
    (λ f. rw f (all-kept P q ds all.1))

all-true : (ds : List (List ℕ)) → AllByRecursion (λ e. Unit {0}) ds
all-true [] = tt
all-true (d ∷ ds) = (tt, all-true ds)

-- with another label in front, a label is found one place later
later : (x l : List ℕ) (xs : List (List ℕ)) → bytes_eq x l ≡ false → place (x ∷ xs) l ≡ 1 + place xs l
later x l xs e = let off : bytes_eq l x ≡ false = text-flip l x ∙ e in rw off refl

order-kept : (x : List ℕ) (xs ds : List (List ℕ)) → InOrder xs ds → InOrder (x ∷ xs) (filter (λ y. not (bytes_eq x y)) ds)
unfolding InOrder
order-kept x xs [] up = tt
order-kept x xs (d ∷ ds) up =
    by_cases (bytes_eq x d) _
    (λ t. rw t (order-kept x xs ds up.1))
    (λ f. rw f (
      all_weaker (λ e. (not (bytes_eq x e) ≡ true) × (place xs d < place xs e)) (λ e. place (x ∷ xs) d < place (x ∷ xs) e) (filter (λ y. not (bytes_eq x y)) ds)
          (λ e h. omega (arith, later x d xs f, later x e xs (not-true (bytes_eq x e) h.0), h.1))
          (all-kept (λ e. place xs d < place xs e) (λ y. not (bytes_eq x y)) ds up.0),
      order-kept x xs ds up.1,
    ))

in-order : (xs : List (List ℕ)) → InOrder xs (distinct xs)
unfolding distinct InOrder
in-order [] = tt
in-order (x ∷ xs) = (
  all_weaker (λ e. (not (bytes_eq x e) ≡ true) × Unit {0}) (λ e. place (x ∷ xs) x < place (x ∷ xs) e) (filter (λ y. not (bytes_eq x y)) (distinct xs))
      (λ e h. let first : place (x ∷ xs) x ≡ 0 = rw (text_same x) refl in omega (arith, first, later x e xs (not-true (bytes_eq x e) h.0)))
      (all-kept (λ e. Unit {0}) (λ y. not (bytes_eq x y)) (distinct xs) (all-true (distinct xs))),
  order-kept x xs (distinct xs) (in-order xs),
)

all-at : (P : List ℕ → Type 0) (ds : List (List ℕ)) (i : ℕ) → AllByRecursion P ds → i < length ds → P (get_or ds i [])
all-at P [] i all lt = absurd (omega arith)
all-at P (d ∷ ds) zero all lt = all.0
all-at P (d ∷ ds) (suc i) all lt = all-at P ds i all.1 (omega arith)

order-at : (xs ds : List (List ℕ)) (i j : ℕ) → InOrder xs ds → i < j → j < length ds → place xs (get_or ds i []) < place xs (get_or ds j [])
unfolding InOrder
order-at xs [] i j up less lt = absurd (omega arith)
order-at xs (d ∷ ds) i zero up less lt = absurd (omega arith)
order-at xs (d ∷ ds) zero (suc j) up less lt = all-at (λ e. place xs d < place xs e) ds j up.0 (omega arith)
order-at xs (d ∷ ds) (suc i) (suc j) up less lt = order-at xs ds i j up.1 (omega arith) (omega arith)

pub labels_are_in_order : LabelsAreInOrder
unfolding labels_of
labels_are_in_order records v w less lt = order-at (flat_map (λ r. r) records) (distinct (flat_map (λ r. r) records)) v w (in-order (flat_map (λ r. r) records)) less lt

-- the lists of predecessors that a test on pairs of vertices gives
abbrev lists_by : (ℕ → ℕ → Bool) → ℕ → List (List ℕ)
lists_by q n = map (λ x. filter (q x) (range_with_len 0 n)) (range_with_len 0 n)

lists-ascend : (q : ℕ → ℕ → Bool) (n : ℕ) (xs : List ℕ) → AllAscend n (map (λ x. filter (q x) (range_with_len 0 n)) xs)
unfolding AllAscend
lists-ascend q n [] = tt
lists-ascend q n (x ∷ xs) = (filter-ascends (q x) 0 n n (omega arith), lists-ascend q n xs)

-- and their graph, in which every vertex is counted
abbrev graph_by : (ℕ → ℕ → Bool) → ℕ → Graph
graph_by q n = record { vertices = n; edges = flat_map (λ x. map (λ y. (y, x)) (filter (q x) (range_with_len 0 n))) (range_with_len 0 n); counted = range_with_len 0 n }

lists-graph : (q : ℕ → ℕ → Bool) (n : ℕ) → graph_of (lists_by q n) [] ≡ graph_by q n
lists-graph q n =
    let long : length (lists_by q n) ≡ n = simp (length-map, length-range_with_len) in
    let edges = edges_by (lists_by q n) (λ x. filter (q x) (range_with_len 0 n)) 0 (λ k lt. get_or-map-range_with_len (λ x. filter (q x) (range_with_len 0 n)) 0 n k (0 + k) [] (omega arith) refl) in
    rw (edges, long, filter-all 0 n) refl

lists-IsGraph : (q : ℕ → ℕ → Bool) (n : ℕ) → IsGraph (graph_by q n)
lists-IsGraph q n =
    let long : length (lists_by q n) ≡ n = simp (length-map, length-range_with_len) in
    subst IsGraph (lists-graph q n) (graph_of-IsGraph (lists_by q n) [] (subst (λ (m : ℕ). AllAscend m (lists_by q n)) (sym long) (lists-ascend q n (range_with_len 0 n))))

lists-edge : (q : ℕ → ℕ → Bool) (n y x : ℕ) → y < n → x < n → is_edge (graph_by q n) y x ≡ q x y
lists-edge q n y x lo hi =
    let long : length (lists_by q n) ≡ n = simp (length-map, length-range_with_len) in
    let at : 0 + x ≡ x = omega arith in
    let found = rw at at (any_edges (lists_by q n) 0 y x (omega arith)) in
    ap (λ (g : Graph). is_edge g y x) (sym (lists-graph q n))
    ∙ found
    ∙ ap (list_any (λ p. p == y)) (get_or-map-range_with_len (λ x. filter (q x) (range_with_len 0 n)) 0 n x x [] hi at)
    ∙ is_kept (q x) 0 n y (omega arith) (omega arith)

-- whether some record leads from the label of y to that of x
abbrev leads_to : List (List (List ℕ)) → ℕ → ℕ → Bool
leads_to records x y = list_any (leads (label_at records y) (label_at records x)) records

pub edges_are_named : EdgesAreNamed
unfolding network_of
edges_are_named records y x lo hi = lists-edge (leads_to records) (length (labels_of records)) y x lo hi

pub edges_stand_once : EdgesStandOnce
unfolding network_of
edges_stand_once records = lists-IsGraph (leads_to records) (length (labels_of records))

-- no edge has an end that is no vertex
edge-none : (es : List (ℕ × ℕ)) (n y x : ℕ) → AllByRecursion (λ e. (e.0 < n) × (e.1 < n)) es → (y < n → x < n → ⊥) → list_any (λ e. (e.0 == y) && (e.1 == x)) es ≡ false
edge-none [] n y x all past = refl
edge-none (e ∷ es) n y x all past =
    by_cases (nat_eq e.0 y) _
    (λ t. by_cases (nat_eq e.1 x) _
    (λ u.
    let from : e.0 ≡ y = eqb-true e.0 y t in
    let to : e.1 ≡ x = eqb-true e.1 x u in
    absurd (past (omega (arith, from, all.0.0)) (omega (arith, to, all.0.1))))
    (λ f. rw (t, f) (edge-none es n y x all.1 past)))
    (λ f. rw f (edge-none es n y x all.1 past))

-- the labels that a record leads from and to are fields of it
leads-from : (r : List (List ℕ)) (from to : List ℕ) → leads from to r ≡ true → list_any (bytes_eq from) r ≡ true
leads-from [] from to e = absurd (cc)
leads-from (a ∷ []) from to e = absurd (cc)
leads-from (a ∷ b ∷ more) from to e =
    by_cases (bytes_eq a from) _
    (λ t. let on : bytes_eq from a ≡ true = text-flip from a ∙ t in rw on refl)
    (λ f. absurd (let bad = rw f at e in cc))

leads-to : (r : List (List ℕ)) (from to : List ℕ) → leads from to r ≡ true → list_any (bytes_eq to) r ≡ true
leads-to [] from to e = absurd (cc)
leads-to (a ∷ []) from to e = absurd (cc)
leads-to (a ∷ b ∷ more) from to e =
    by_cases (bytes_eq a from) _
    (λ t.
    let last : bytes_eq b to ≡ true = rw t at e in
    let on : bytes_eq to b ≡ true = text-flip to b ∙ last in
    by_cases (bytes_eq to a) _ (λ u. rw u refl) (λ f. rw (f, on) refl))
    (λ f. absurd (let bad = rw f at e in cc))

or-by : (a b c : Bool) → (c ≡ true → a ≡ true) → (c ≡ false → b ≡ true) → (a || b) ≡ true
or-by a b true f g = rw (f refl) refl
or-by true b false f g = refl
or-by false b false f g = g refl

any-flat : (p : List ℕ → Bool) (q : List (List ℕ) → Bool) (rs : List (List (List ℕ))) → ((r : List (List ℕ)) → q r ≡ true → list_any p r ≡ true) → list_any q rs ≡ true → list_any p (flat_map (λ r. r) rs) ≡ true
any-flat p q [] has e = absurd (cc)
any-flat p q (r ∷ rs) has e =
    list_any-append p r (flat_map (λ s. s) rs) ∙ or-by (list_any p r) (list_any p (flat_map (λ s. s) rs)) (q r) (has r) (λ f. any-flat p q rs has (rw f at e))

-- between labels that are not both of vertices there is no edge
joins-none : (records : List (List (List ℕ))) (from to : List ℕ) → (vertex_at records from < length (labels_of records) → vertex_at records to < length (labels_of records) → ⊥) → (list_any (leads from to) records ≡ true → ⊥) →
    joins records from to ≡ list_any (leads from to) records
unfolding network_of
joins-none records from to past none =
    edge-none (network_of records).graph.edges (length (labels_of records)) (vertex_at records from) (vertex_at records to) (edges_stand_once records).ends past
    ∙ sym (false_from_ne_true (list_any (leads from to) records) none)

-- a label that is none of a vertex is no field
no-field : (records : List (List (List ℕ))) (label : List ℕ) (q : List (List ℕ) → Bool) → ((r : List (List ℕ)) → q r ≡ true → list_any (bytes_eq label) r ≡ true) → list_any (bytes_eq label) (labels_of records) ≡ false → list_any q records ≡ true → ⊥
no-field records label q has none e =
    let bad : true ≡ false = sym (any-flat (bytes_eq label) q records has e) ∙ sym (labels_are_fields records label) ∙ none in
    cc

-- the vertex with a label that is one has that label
vertex-label : (records : List (List (List ℕ))) (label : List ℕ) → list_any (bytes_eq label) (labels_of records) ≡ true → label_at records (vertex_at records label) ≡ label
vertex-label records label t = (present label (labels_of records) t).1

-- there is an edge from the one label to the other exactly where some record leads from the one to the other
joins-leads : (records : List (List (List ℕ))) (from to : List ℕ) → joins records from to ≡ list_any (leads from to) records
joins-leads records from to =
    by_cases (list_any (bytes_eq from) (labels_of records)) _
    (λ t. by_cases (list_any (bytes_eq to) (labels_of records)) _
    (λ u.
    let lo = place-within (bytes_eq from) (labels_of records) t in
    let hi = place-within (bytes_eq to) (labels_of records) u in
    edges_are_named records (vertex_at records from) (vertex_at records to) lo hi
    ∙ ap₂ (λ (a b : List ℕ). list_any (leads a b) records) (vertex-label records from t) (vertex-label records to u))
    (λ f. joins-none records from to
    (λ lo hi. omega (arith, place-none (bytes_eq to) (labels_of records) f, hi))
    (no-field records to (leads from to) (λ r. leads-to r from to) f)))
    (λ f. joins-none records from to
    (λ lo hi. omega (arith, place-none (bytes_eq from) (labels_of records) f, lo))
    (no-field records from (leads from to) (λ r. leads-from r from to) f))

pub declaring_adds_no_edge : DeclaringAddsNoEdge
declaring_adds_no_edge records more label from to =
    joins-leads (records ++ (label ∷ []) ∷ more) from to
    ∙ list_any-append (leads from to) records ((label ∷ []) ∷ more)
    ∙ sym (list_any-append (leads from to) records more)
    ∙ sym (joins-leads (records ++ more) from to)
