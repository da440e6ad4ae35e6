-- What accumulators have heard once rows are spread.
use Rattle.std.proofs.Common.{◌≡◌, ℕ, zero, suc, ◌+◌, ◌*◌, ◌<◌, ◌≤◌, ◌%◌, Bool, true, false, ◌&&◌, ◌||◌, ◌==◌, List, [], ◌∷◌, ◌++◌, map, length, get_or, if◌then◌else◌, refl, ap, arith, sym, ◌∙◌, inl, inr}
use Rattle.std.specs.Cmp.{both_ways}
use Rattle.replica.proofs.Names.{list_any, range_with_len, filter, AllByRecursion, and_parts, and_from, or_cases, or_left, or_right, eqb-true, eq-eqb, length-map, get_or-map, same_lists, map-append, append-nil, get_or-map-range_with_len, mixing_of, vertices_of, Job, IsJob, PartValue, part_of, feeds_into, sent_vertices, true_batch, own_vertices, rows_of, marks_of, filter-append, ball_counter, max_each, IsNextMarked, at_next}
use Rattle.std.proofs.Math.Bool.{or-false, or_assoc}
use Rattle.ball_model.specs.Graph.{is_edge}
use Rattle.ball_model.specs.Change.{changed_at}
use Rattle.ball_model.specs.Accumulated.{accumulated_of}
use Rattle.ball_model.proofs.PathLemmas.{any_filter, any_range, range_any, edge_below}
use Rattle.ball_model.proofs.ChangeLemmas.{filter_passes}
use Rattle.ball_model.proofs.PartLemmas.{vertices_of-strided, range_more}
use Rattle.ball_model.proofs.AccumulatedLemmas.{accumulated-step}
use Rattle.ball_model.proofs.AccumulatedPartLemmas.{accumulated_of-same, accumulated_of-at, length-accumulated_of, own_is}
use Rattle.replica.specs.Index.{targets_of}
use Rattle.replica.specs.Spread.{stands_in, row_after, rows_after, rows_after_all, marked_rows}
use Rattle.replica.proofs.SpreadLemmas.{length-spread, spread-at}
use Rattle.replica.proofs.IndexLemmas.Target.{targets-edge}

at_place : (b : Bool) (places src : List ℕ) (rows : List (List ℕ)) (k : ℕ) (row : List ℕ) → stands_in places k ≡ b → get_or rows k [] ≡ row → row_after places src rows k ≡ (if b then max_each row src else row)
unfolding row_after
at_place b places src rows k row e at = rw (e, at) refl

-- THE SPREAD: the counter of a changed vertex, spread to where it has an edge, is heard
pub accumulated_of-spread : (j : Job) (p t z : ℕ) (heard : ℕ → Bool) → IsJob j → changed_at (mixing_of j.plan) j.graph z t ≡ true →
    rows_after (get_or (targets_of (part_of j p)) z []) (ball_counter (mixing_of j.plan) j.graph z t) (accumulated_of j p t heard) ≡ accumulated_of j p t (λ w. heard w || (w == z))
accumulated_of-spread j p t z heard job changed =
    grind (arith, same_lists, length-spread, length-accumulated_of, spread-at, at_place, accumulated_of-at, accumulated-step, targets-edge)

-- ---- many rows, one after the other
turned : (a b : ℕ) → (a == b) ≡ (b == a)
turned a b = both_ways _ _ (λ e. eq-eqb b a (sym (eqb-true a b e))) (λ e. eq-eqb a b (sym (eqb-true b a e)))

-- counters of changed vertices, spread one after the other, are heard
pub spread-each : (j : Job) (p t : ℕ) (heard : ℕ → Bool) (ys : List ℕ) → IsJob j → AllByRecursion (λ y. changed_at (mixing_of j.plan) j.graph y t ≡ true) ys →
    rows_after_all (targets_of (part_of j p)) (map (λ y. (y, ball_counter (mixing_of j.plan) j.graph y t)) ys) (accumulated_of j p t heard) ≡ accumulated_of j p t (λ w. heard w || stands_in ys w)
unfolding rows_after_all
spread-each j p t heard [] job all = accumulated_of-same j p t heard (λ w. heard w || false) (λ x z member edge changed. sym (or-false (heard z)))
spread-each j p t heard (y ∷ ys) job all =
    ap (λ rows. rows_after_all (targets_of (part_of j p)) (map (λ k. (k, ball_counter (mixing_of j.plan) j.graph k t)) ys) rows) (accumulated_of-spread j p t y heard job all.0)
    ∙ spread-each j p t (λ w. heard w || (w == y)) ys job all.1
    ∙ accumulated_of-same j p t (λ w. (heard w || (w == y)) || stands_in ys w) (λ w. heard w || ((y == w) || stands_in ys w))
    (λ x z member edge changed. or_assoc (heard z) (z == y) (stands_in ys z) ∙ ap (λ b. heard z || (b || stands_in ys z)) (turned z y))

-- of the vertices of a partition that pass a test, one that passes is there exactly where it is of the partition
among : (f : ℕ → Bool) (n parts q z : ℕ) → z < n → f z ≡ true → stands_in (filter f (vertices_of n parts q)) z ≡ (z % parts == q)
unfolding vertices_of
among f n parts q z lt passes =
    let g : ℕ → Bool = λ y. y % parts == q in
    any_filter (λ y. y == z) f (filter g (range_with_len 0 n))
    ∙ any_filter (λ k. f k && (k == z)) g (range_with_len 0 n)
    ∙ both_ways _ _
    (λ e.
    let found = range_any (λ k. g k && (f k && (k == z))) 0 n e in
    let both = and_parts (g found.0) (f found.0 && (found.0 == z)) found.3 in
    ap g (sym (eqb-true found.0 z (and_parts (f found.0) (found.0 == z) both.1).1)) ∙ both.0)
    (λ e. any_range (λ k. g k && (f k && (k == z))) 0 n z (omega arith) (omega arith) (and_from (g z) (f z && (z == z)) e (and_from (f z) (z == z) passes (eq-eqb z z refl))))

-- counters of changed vertices of a partition, all of those with an edge to an own one: the partition is heard
part-heard : (j : Job) (p t q : ℕ) (heard f : ℕ → Bool) → IsJob j → ((y : ℕ) → f y ≡ true → changed_at (mixing_of j.plan) j.graph y t ≡ true) →
    ((x z : ℕ) → x % j.plan.parts ≡ p → is_edge j.graph z x ≡ true → changed_at (mixing_of j.plan) j.graph z t ≡ true → f z ≡ true) →
    rows_after_all (targets_of (part_of j p)) (map (λ y. (y, ball_counter (mixing_of j.plan) j.graph y t)) (filter f (own_vertices j q))) (accumulated_of j p t heard)
    ≡ accumulated_of j p t (λ w. heard w || (w % j.plan.parts == q))
part-heard j p t q heard f job told all =
    spread-each j p t heard (filter f (own_vertices j q)) job (changed_all (filter f (own_vertices j q)) (filter_passes f (own_vertices j q)))
    ∙ accumulated_of-same j p t (λ w. heard w || stands_in (filter f (own_vertices j q)) w) (λ w. heard w || (w % j.plan.parts == q))
    (λ x z member edge changed. ap (λ b. heard z || b) (among f j.graph.vertices j.plan.parts q z (edge_below j.graph z x job.graph edge).0
    (all x z (own_is j.graph.vertices j.plan.parts p x member) edge changed)))
  where
    changed_all : (ys : List ℕ) → AllByRecursion (λ y. f y ≡ true) ys → AllByRecursion (λ y. changed_at (mixing_of j.plan) j.graph y t ≡ true) ys
    changed_all [] h = tt
    changed_all (y ∷ ys) h = (told y h.0, changed_all ys h.1)

feeds_in : (es : List (ℕ × ℕ)) (parts p z x : ℕ) → x % parts ≡ p → list_any (λ e. (e.0 == z) && (e.1 == x)) es ≡ true → list_any (λ e. (e.0 == z) && (e.1 % parts == p)) es ≡ true
feeds_in [] parts p z x own e = absurd (cc)
feeds_in (a ∷ es) parts p z x own e =
    elim (or_cases ((a.0 == z) && (a.1 == x)) (list_any (λ e. (e.0 == z) && (e.1 == x)) es) e) [
      | inl here ↦
          let both = and_parts (a.0 == z) (a.1 == x) here in
          let mine : a.1 % parts ≡ p = ap (λ k. k % parts) (eqb-true a.1 x both.1) ∙ own in
          or_left ((a.0 == z) && (a.1 % parts == p)) _ (and_from (a.0 == z) (a.1 % parts == p) both.0 (eq-eqb (a.1 % parts) p mine))
      | inr later ↦ or_right ((a.0 == z) && (a.1 % parts == p)) _ (feeds_in es parts p z x own later)
    ]

-- THE BATCH: once the rows of the true batch of source q are spread, q is heard
pub spread-batch : (j : Job) (p t q : ℕ) (heard : ℕ → Bool) → IsJob j →
    rows_after_all (targets_of (part_of j p)) (true_batch j (record { superstep = t; source = q; target = p })).rows (accumulated_of j p t heard) ≡ accumulated_of j p t (λ w. heard w || (w % j.plan.parts == q))
unfolding true_batch sent_vertices feeds_into
spread-batch j p t q heard job =
    part-heard j p t q heard (λ y. changed_at (mixing_of j.plan) j.graph y t && feeds_into j.graph j.plan.parts y p) job
    (λ y e. (and_parts (changed_at (mixing_of j.plan) j.graph y t) (feeds_into j.graph j.plan.parts y p) e).0)
    (λ x z own edge changed. and_from (changed_at (mixing_of j.plan) j.graph z t) (feeds_into j.graph j.plan.parts z p) changed (feeds_in j.graph.edges j.plan.parts p z x own edge))

-- ---- the own rows
kept_both : {X : Type 0} (F : ℕ → X) (a b : Bool) (x : X) (y : ℕ) (xs : List X) (ys : List ℕ) → a ≡ b → x ≡ F y → xs ≡ map F ys → (if a then (x ∷ xs) else xs) ≡ map F (if b then (y ∷ ys) else ys)
kept_both F a b x y xs ys test here later = grind arith

pushed : {X : Type 0} (f : ℕ → X) (b : Bool) (k : ℕ) (rest : List ℕ) → map f (if b then (k ∷ rest) else rest) ≡ (if b then (f k ∷ map f rest) else map f rest)
pushed f b k rest = grind arith

-- places that are marked, and the vertices that pass
marked_are : {X : Type 0} (v : ℕ → ℕ) (f F : ℕ → X) (g G : ℕ → Bool) (a n end : ℕ) → a + n ≤ end → ((k : ℕ) → k < end → f k ≡ F (v k)) → ((k : ℕ) → k < end → g k ≡ G (v k)) →
    map f (filter g (range_with_len a n)) ≡ map F (filter G (map v (range_with_len a n)))
marked_are v f F g G a zero end fits rows marks = refl
marked_are v f F g G a (suc n) end fits rows marks =
    grind (arith, marked_are v f F g G (a + 1) n end (omega arith) rows marks, pushed, kept_both)

-- the marked rows of a partition are the counters of its changed vertices
marked-rows : (j : Job) (p t : ℕ) → p < j.plan.parts →
    marked_rows j.plan.parts p (rows_of j p t) (marks_of j p t) (length (marks_of j p t)) ≡ map (λ y. (y, ball_counter (mixing_of j.plan) j.graph y t)) (filter (λ y. changed_at (mixing_of j.plan) j.graph y t) (own_vertices j p))
unfolding marked_rows rows_of marks_of
marked-rows j p t lt =
    let m = mixing_of j.plan in
    let n = length (own_vertices j p) in
    let v : ℕ → ℕ = λ i. i * j.plan.parts + p in
    let is : own_vertices j p ≡ map v (range_with_len 0 n) = vertices_of-strided j.graph.vertices j.plan.parts p lt in
    let count : length (map (λ x. changed_at m j.graph x t) (own_vertices j p)) ≡ n = simp length-map refl in
    let own : (k : ℕ) → k < n → get_or (own_vertices j p) k 0 ≡ v k = λ k less. strided_at k less in
    grind (arith, marked_are, get_or-map, vertices_of-strided, get_or-map-range_with_len)
  where
    strided_at : (k : ℕ) → k < length (own_vertices j p) → get_or (own_vertices j p) k 0 ≡ k * j.plan.parts + p
    strided_at k less =
        ap (λ ys. get_or ys k 0) (vertices_of-strided j.graph.vertices j.plan.parts p lt)
        ∙ get_or-map-range_with_len (λ i. i * j.plan.parts + p) 0 (length (own_vertices j p)) k k 0 less (omega arith)

-- THE OWN ROWS: once the changed ones are spread, the partition itself is heard
pub spread-own : (j : Job) (p t : ℕ) (heard : ℕ → Bool) → IsJob j → p < j.plan.parts →
    rows_after_all (targets_of (part_of j p)) (marked_rows j.plan.parts p (rows_of j p t) (marks_of j p t) (length (marks_of j p t))) (accumulated_of j p t heard) ≡ accumulated_of j p t (λ w. heard w || (w % j.plan.parts == p))
spread-own j p t heard job lt = grind (arith, marked-rows, part-heard)

-- ---- one row more
spread_each-last : (targets : List (List ℕ)) (before : List (ℕ × List ℕ)) (row : ℕ × List ℕ) (rows : List (List ℕ)) →
    rows_after_all targets (before ++ row ∷ []) rows ≡ rows_after (get_or targets row.0 []) row.1 (rows_after_all targets before rows)
unfolding rows_after_all
spread_each-last targets [] row rows = refl
spread_each-last targets (other ∷ before) row rows = spread_each-last targets before row (rows_after (get_or targets other.0 []) other.1 rows)

pub spread_each-more : (targets : List (List ℕ)) (before after : List (ℕ × List ℕ)) (row : ℕ × List ℕ) (rows : List (List ℕ)) → after ≡ before ++ row ∷ [] →
    rows_after (get_or targets row.0 []) row.1 (rows_after_all targets before rows) ≡ rows_after_all targets after rows
spread_each-more targets before after row rows is = sym (ap (λ l. rows_after_all targets l rows) is ∙ spread_each-last targets before row rows)

pub spread_each-none : (targets : List (List ℕ)) (rows : List (List ℕ)) → rows ≡ rows_after_all targets [] rows
unfolding rows_after_all
spread_each-none targets rows = refl

-- ---- the marked rows, one place more
pub marked-none : (parts p : ℕ) (rows : List (List ℕ)) (marks : List Bool) → marked_rows parts p rows marks 0 ≡ []
unfolding marked_rows
marked-none parts p rows marks = refl

marked-next : (parts p i : ℕ) (rows : List (List ℕ)) (marks : List Bool) (b : Bool) → get_or marks i false ≡ b →
    marked_rows parts p rows marks (i + 1) ≡ marked_rows parts p rows marks i ++ map (λ k. (k * parts + p, get_or rows k [])) (if b then (i ∷ []) else [])
unfolding marked_rows
marked-next parts p i rows marks b at = grind (arith, range_more, filter-append, map-append)

pub marked-yes : (parts p i : ℕ) (rows : List (List ℕ)) (marks : List Bool) → get_or marks i false ≡ true →
    marked_rows parts p rows marks (i + 1) ≡ marked_rows parts p rows marks i ++ (i * parts + p, get_or rows i []) ∷ []
marked-yes parts p i rows marks at = marked-next parts p i rows marks true at

pub marked-no : (parts p i : ℕ) (rows : List (List ℕ)) (marks : List Bool) → get_or marks i false ≡ false → marked_rows parts p rows marks (i + 1) ≡ marked_rows parts p rows marks i
marked-no parts p i rows marks at = marked-next parts p i rows marks false at ∙ append-nil (marked_rows parts p rows marks i)

-- and up to the next marked one
pub marked-over : (parts p from next : ℕ) (rows : List (List ℕ)) (marks : List Bool) → IsNextMarked marks from next → marked_rows parts p rows marks next ≡ marked_rows parts p rows marks from
marked-over parts p from next rows marks is =
    at_next (λ n. marked_rows parts p rows marks n ≡ marked_rows parts p rows marks from) marks from next is (λ k low lt off same. marked-no parts p k rows marks off ∙ same) refl

-- what a partition has, its changed rows spread
pub own_stands : (j : Job) (p t n : ℕ) (heard : ℕ → Bool) (part : PartValue) (targets rows accumulated : List (List ℕ)) (marks : List Bool) → IsJob j → p < j.plan.parts → part ≡ part_of j p → targets ≡ targets_of part → rows ≡ rows_of j p t → marks ≡ marks_of j p t → accumulated ≡ accumulated_of j p t heard → n ≡ length marks →
    rows_after_all targets (marked_rows part.plan.parts part.number rows marks n) accumulated ≡ accumulated_of j p t (λ w. heard w || (w % j.plan.parts == p))
own_stands j p t n heard part targets rows accumulated marks job lt told index own changed stands all =
    rw (index, told, all, own, changed, stands) (unfold part_of in (spread-own j p t heard job lt))
