-- The lists of a partition's vertices.
use Rattle.std.proofs.Common.{◌≡◌, ◌∙◌, ℕ, zero, suc, ◌+◌, ◌-◌, ◌*◌, ◌%◌, ◌<◌, ◌≤◌, Bool, true, ◌==◌, List, [], ◌∷◌, ◌++◌, length, map, get_or, refl, ap, subst, arith, sym, tests, inl, inr}
use Rattle.std.specs.List.{filter, flat_map, range_with_len, All}
use Rattle.std.proofs.lemmas.List.{length-append, length-map, map-append, get_or-map, ext_get_or}
use Rattle.std.proofs.lemmas.List.Elements.{filter-append}
use Rattle.std.proofs.lemmas.List.FromFn.{get_or-map-range_with_len, length-map-range_with_len, length-range_with_len}
use Rattle.ball_model.specs.Graph.{Graph, IsGraph, is_edge, is_counted, preds_of, listed_edges}
use Rattle.ball_model.specs.PlanValue.{PlanValue, IsPlan, vertices_of, part_size}
use Rattle.ball_model.specs.Job.{feed_mask, IsPart}
use Rattle.std.proofs.lemmas.Bool.{cases_lt}
use Rattle.ball_model.proofs.PartLemmas.{range_more, vertices_of-strided}
use Rattle.graph.specs.Links.{AllAscend, graph_of}
use Rattle.graph.proofs.LinksLemmas.{ascends-below, preds_of-graph}
use Rattle.gapcode.specs.Lists.{AscendsFrom}
use Rattle.graph.proofs.EdgeLemmas.{filter-ascends, ascends-from}
use Rattle.graph.proofs.DigestLemmas.{edges_to}

-- one number more is a vertex of the partition
own-next : (n parts p : ℕ) → n % parts ≡ p → vertices_of (n + 1) parts p ≡ vertices_of n parts p ++ n ∷ []
unfolding vertices_of
own-next n parts p at =
    let on : (n % parts == p) ≡ true = search (tests, arith) in
    ap (filter (λ v. v % parts == p)) (range_more n) ∙ filter-append (λ v. v % parts == p) (range_with_len 0 n) (n ∷ []) ∙ rw on refl

-- a sole partition has all vertices
pub vertices-all : (n : ℕ) → vertices_of n 1 0 ≡ range_with_len 0 n
unfolding vertices_of
vertices-all zero = refl
vertices-all (suc n) =
    let next : suc n ≡ n + 1 = omega arith in
    subst (λ (k : ℕ). vertices_of k 1 0 ≡ range_with_len 0 k) (sym next) (own-next n 1 0 (omega arith) ∙ ap (λ (l : List ℕ). l ++ n ∷ []) (vertices-all n) ∙ sym (range_more n))

pub vertices-sole : (n parts p : ℕ) → parts ≡ 1 → p < parts → vertices_of n parts p ≡ range_with_len 0 n
vertices-sole n parts p one lt =
    let none : p ≡ 0 = omega (arith, one) in
    rw (one, none) (vertices-all n)

-- as many as there are
pub size-all : (n : ℕ) → part_size n 1 0 ≡ n
size-all n = ap (length {A = ℕ}) (vertices-all n) ∙ length-range_with_len 0 n

-- the vertices of partition p with an index below k
abbrev pub own_first : ℕ → ℕ → ℕ → List ℕ
own_first parts p k = map (λ i. i * parts + p) (range_with_len 0 k)

-- what one vertex more has
pub first-next : {X : Type 0} (f : ℕ → X) (parts p k : ℕ) → map f (own_first parts p (k + 1)) ≡ map f (own_first parts p k) ++ f (k * parts + p) ∷ []
first-next f parts p k =
    ap (λ (l : List ℕ). map f (map (λ i. i * parts + p) l)) (range_more k)
    ∙ ap (map f) (map-append (λ i. i * parts + p) (range_with_len 0 k) (k ∷ []))
    ∙ map-append f (own_first parts p k) ((k * parts + p) ∷ [])

pub own-more : {X : Type 0} (f : ℕ → X) (parts p k : ℕ) (now later : List X) (item : X) → later ≡ now ++ item ∷ [] → now ≡ map f (own_first parts p k) → item ≡ f (k * parts + p) → later ≡ map f (own_first parts p (k + 1))
own-more f parts p k now later item more are is =
    more ∙ ap (λ l. l ++ item ∷ []) are ∙ ap (λ t. map f (own_first parts p k) ++ t ∷ []) is ∙ sym (first-next f parts p k)

-- what all of them have
pub first-all : {X : Type 0} (f : ℕ → X) (n m parts p k : ℕ) → p < parts → k ≡ part_size n parts p → n ≡ m → map f (own_first parts p k) ≡ map f (vertices_of m parts p)
first-all f n m parts p k lt size same =
    ap (λ (i : ℕ). map f (own_first parts p i)) size ∙ ap (map f) (sym (vertices_of-strided n parts p lt)) ∙ ap (λ (i : ℕ). map f (vertices_of i parts p)) same

-- the lists of a graph are those of its sole partition
pub lists-all : (lists : List (List ℕ)) (marks : List Bool) → AllAscend (length lists) lists → lists ≡ map (λ x. preds_of (graph_of lists marks) x) (vertices_of (length lists) 1 0)
lists-all lists marks asc =
    rw (vertices-all (length lists)) (ext_get_or [] lists (map (preds_of (graph_of lists marks)) (range_with_len 0 (length lists)))
    (sym (length-map-range_with_len (preds_of (graph_of lists marks)) 0 (length lists)))
    (λ i lt. sym (preds_of-graph lists marks i asc lt) ∙ sym (get_or-map-range_with_len (preds_of (graph_of lists marks)) 0 (length lists) i i [] lt (omega arith))))

-- the predecessors in the graph of lists are these lists
pub preds-lists : (lists : List (List ℕ)) → AllAscend (length lists) lists → map (λ x. preds_of (graph_of lists []) x) (range_with_len 0 (length lists)) ≡ lists
preds-lists lists asc = ap (λ (xs : List ℕ). map (λ x. preds_of (graph_of lists []) x) xs) (sym (vertices-all (length lists))) ∙ sym (lists-all lists [] asc)

-- how many edges lead to the vertices from x on
abbrev pub left : Graph → ℕ → ℕ → ℕ
left g n x = length (flat_map (edges_to g) (range_with_len x (n - x)))

left-next : (g : Graph) (n x : ℕ) → x < n → left g n x ≡ length (preds_of g x) + left g n (x + 1)
left-next g n x lt =
    let split : n - x ≡ suc (n - (x + 1)) = omega arith in
    let here : length (edges_to g x) ≡ length (preds_of g x) = simp length-map in
    rw split (length-append (edges_to g x) (flat_map (edges_to g) (range_with_len (x + 1) (n - (x + 1)))) ∙ omega (arith, here))

left-all : (g : Graph) (n : ℕ) → IsGraph g → n ≡ g.vertices → left g n 0 ≡ length g.edges
unfolding listed_edges
left-all g n ok count =
    let whole : n - 0 ≡ g.vertices = omega arith in
    rw whole (ap (length {A = ℕ × ℕ}) (sym ok.listed))

left-less : (g : Graph) (n x : ℕ) → left g n (x + 1) ≤ left g n x
left-less g n x =
    elim (cases_lt x n) [
      | inl lt ↦ omega (arith, left-next g n x lt)
      | inr le ↦
          let here : n - x ≡ 0 = omega arith in
          let next : n - (x + 1) ≡ 0 = omega arith in
          rw (here, next) (omega arith)
    ]

left-fewer : (g : Graph) (n x k : ℕ) → left g n (x + k) ≤ left g n x
left-fewer g n x zero =
    let at : x + 0 ≡ x = omega arith in
    rw at (omega arith)
left-fewer g n x (suc k) =
    let at : x + suc k ≡ x + k + 1 = omega arith in
    rw at (omega (arith, left-less g n (x + k), left-fewer g n x k))

-- no more lead to the vertices of a partition
pub left-first : (g : Graph) (n parts p : ℕ) → IsGraph g → n ≡ g.vertices → left g n (0 * parts + p) ≤ length g.edges
left-first g n parts p ok count =
    let at : 0 * parts + p ≡ 0 + p = omega arith in
    rw at (omega (arith, left-fewer g n 0 p, left-all g n ok count))

pub left-stride : (g : Graph) (n parts p i : ℕ) → p < parts → i * parts + p < n → length (preds_of g (i * parts + p)) + left g n ((i + 1) * parts + p) ≤ left g n (i * parts + p)
left-stride g n parts p i lt low =
    let far : (i + 1) * parts ≡ i * parts + parts = grind arith in
    let at : (i + 1) * parts + p ≡ i * parts + p + 1 + (parts - 1) = omega (arith, far) in
    rw at (omega (arith, left-next g n (i * parts + p) low, left-fewer g n (i * parts + p + 1) (parts - 1)))

below-filter : (n : ℕ) (q : ℕ → Bool) (a k : ℕ) → a + k ≤ n → (i d : ℕ) → i < length (filter q (range_with_len a k)) → get_or (filter q (range_with_len a k)) i d < n
below-filter n q a k le i d lt = ascends-below a n (filter q (range_with_len a k)) i d (filter-ascends q a k n le) lt

-- the predecessors of vertices are vertices
own-below : (g : Graph) (xs : List ℕ) → All (λ zs. All (λ z. z < g.vertices) zs) (map (λ x. preds_of g x) xs)
own-below g xs = λ k d lt.
    let within : k < length xs = simp length-map at lt in
    rw (get_or-map (λ x. preds_of g x) xs k 0 d within) (below-filter g.vertices (λ y. is_edge g y (get_or xs k 0)) 0 g.vertices (omega arith))

-- the lists and masks of a partition of a job are within a part's limits
pub part-is : (plan : PlanValue) (g : Graph) (p : ℕ) (lists : List (List ℕ)) (feeds : List ℕ) (counted : List Bool) → IsPlan plan → p < plan.parts → plan.vertices ≡ g.vertices →
    lists ≡ map (λ x. preds_of g x) (vertices_of g.vertices plan.parts p) → feeds ≡ map (λ x. feed_mask g plan.parts x) (vertices_of g.vertices plan.parts p) → counted ≡ map (λ x. is_counted g x) (vertices_of g.vertices plan.parts p) →
    IsPart (record { plan = plan; number = p; preds = lists; feeds = feeds; counted = counted })
part-is plan g p lists feeds counted ok lt count are masks marks = record {
  plan = ok;
  number = lt;
  preds = rw (are, count) (simp length-map);
  feeds = rw (masks, count) (simp length-map);
  counted = rw (marks, count) (simp length-map);
  below = rw (are, count) (own-below g (vertices_of g.vertices plan.parts p));
}

-- the predecessors of a vertex ascend
pub preds-from : (g : Graph) (x : ℕ) → AscendsFrom 0 (preds_of g x)
preds-from g x = ascends-from 0 g.vertices (preds_of g x) (filter-ascends (λ y. is_edge g y x) 0 g.vertices g.vertices (omega arith))

-- what a vertex has, of what all have
pub own-item : {X : Type 0} (f : ℕ → X) (all : List X) (n x : ℕ) (item : X) → all ≡ map f (range_with_len 0 n) → x < n → item ≡ get_or all x item → item ≡ f x
own-item f all n x item are low is =
    is ∙ ap (λ l. get_or l x item) are ∙ get_or-map-range_with_len f 0 n x x item low (omega arith)
