-- What a replica sends is the true batch, where it stands for its content.
use Rattle.std.proofs.Common.{◌≡◌, ℕ, zero, suc, ◌+◌, ◌*◌, ◌<◌, ◌≤◌, Bool, true, false, ◌&&◌, List, [], ◌∷◌, ◌++◌, length, length-append, map, get_or, take, if◌then◌else◌, refl, ap, arith, sym, subst, ◌∙◌}
use Rattle.replica.proofs.Names.{common_steps, range_with_len, flat_map, filter, count_by, AllByRecursion, and_left, append-nil, PlanValue, mixing_of, part_size, Job, part_of, feeds_into, feed_mask, BatchValue, IsRow, true_batch, sent_vertices, ids_of, State, StandsFor, length-filter, ball_counter, IsNextMarked, at_next}
use Rattle.std.proofs.lemmas.List.Concat.{flat_map-append}
use Rattle.ball_model.specs.Change.{changed_at}
use Rattle.ball_model.specs.Masks.{has_bit}
use Rattle.ball_model.proofs.MaskLemmas.{mask-bit}
use Rattle.ball_model.proofs.PartLemmas.{range_more, vertices_of-strided}
use Rattle.replica.specs.Seen.{IsState}
use Rattle.replica.specs.Sent.{sent_row, sent_rows, sent_batch}
use Rattle.replica.proofs.IndexLemmas.Own.{vertex_of, own_below, own_part, at_own}
use Rattle.replica.proofs.LevelLemmas.Level.{plan_is, number_is, size_is, row_at, mark_at}
use Rattle.replica.proofs.SeenLemmas.Read.{count_stands}

sent_if : (b : Bool) (y : ℕ) (row : List ℕ) (ys : List ℕ) (G : ℕ → ℕ × List ℕ) → G y ≡ (y, row) → (if b then (y, row) ∷ [] else []) ++ map G ys ≡ map G (if b then (y ∷ ys) else ys)
sent_if b y row ys G at = grind arith

-- rows that are sent one by one are those of the vertices that pass
sent_all : (F : ℕ → List (ℕ × List ℕ)) (h : ℕ → ℕ) (C : ℕ → List ℕ) (test : ℕ → Bool) (a n bound : ℕ) → a + n ≤ bound → ((i : ℕ) → i < bound → F i ≡ (if test (h i) then (h i, C (h i)) ∷ [] else [])) →
    flat_map F (range_with_len a n) ≡ map (λ y. (y, C y)) (filter test (map h (range_with_len a n)))
sent_all F h C test a zero bound le is = refl
sent_all F h C test a (suc n) bound le is =
    rw (is a (omega arith), sent_all F h C test (a + 1) n bound (omega arith) is) (sent_if (test (h a)) (h a) (C (h a)) (filter test (map h (range_with_len (a + 1) n))) (λ y. (y, C y)) refl)

part_feeds : (j : Job) (p i : ℕ) → p < j.plan.parts → i < part_size j.graph.vertices j.plan.parts p → get_or (part_of j p).feeds i 0 ≡ feed_mask j.graph j.plan.parts (vertex_of j.plan.parts p i)
unfolding part_of
part_feeds j p i below lt = at_own (λ x. feed_mask j.graph j.plan.parts x) j.graph.vertices j.plan.parts p i 0 below lt

-- one row
row_sent : (j : Job) (p t target i : ℕ) (v : State) → StandsFor j p t v → target < j.plan.parts → i < part_size j.graph.vertices j.plan.parts p →
    sent_row v target i ≡ (if changed_at (mixing_of j.plan) j.graph (vertex_of j.plan.parts p i) t && feeds_into j.graph j.plan.parts (vertex_of j.plan.parts p i) target then (vertex_of j.plan.parts p i, ball_counter (mixing_of j.plan) j.graph (vertex_of j.plan.parts p i) t) ∷ [] else [])
row_sent j p t target i v h lt inside =
    grind (arith, mark_at, part_feeds, mask-bit, plan_is, number_is, row_at)

rows_sent : (j : Job) (p t target : ℕ) (v : State) → StandsFor j p t v → target < j.plan.parts →
    sent_rows v target (length v.part.preds) ≡ map (λ y. (y, ball_counter (mixing_of j.plan) j.graph y t)) (sent_vertices j t p target)
unfolding sent_rows sent_vertices
rows_sent j p t target v h lt =
    let C : ℕ → List ℕ = λ y. ball_counter (mixing_of j.plan) j.graph y t in
    let test : ℕ → Bool = λ y. changed_at (mixing_of j.plan) j.graph y t && feeds_into j.graph j.plan.parts y target in
    ap (λ n. flat_map (λ i. sent_row v target i) (range_with_len 0 n)) (size_is j p t v h)
    ∙ sent_all (λ i. sent_row v target i) (λ i. vertex_of j.plan.parts p i) C test 0 (part_size j.graph.vertices j.plan.parts p) (part_size j.graph.vertices j.plan.parts p) (omega arith) (λ i inside. row_sent j p t target i v h lt inside)
    ∙ ap (λ (ys : List ℕ). map (λ y. (y, C y)) (filter test ys)) (sym (vertices_of-strided j.graph.vertices j.plan.parts p h.partition))

-- THE OUT: what is sent is the true batch
pub sent_true : (j : Job) (p t target : ℕ) (v : State) → StandsFor j p t v → target < v.part.plan.parts → sent_batch v target (length v.part.preds) ≡ true_batch j (record { superstep = t; source = p; target = target })
unfolding sent_batch true_batch
sent_true j p t target v h lt =
    let plan = plan_is j p t v h in
    let inside : target < j.plan.parts = omega (arith, ap (λ (a : PlanValue). a.parts) plan) in
    rw (rows_sent j p t target v h inside, count_stands j p t v h, plan, number_is j p t v h, h.superstep) refl

-- one vertex more
pub sent_more : (v : State) (target n : ℕ) → sent_rows v target (n + 1) ≡ sent_rows v target n ++ sent_row v target n
unfolding sent_rows
sent_more v target n = grind (arith, range_more, flat_map-append)

-- a batch that has gained one vertex's row
pub sent_yes : (v : State) (target i id : ℕ) (row : List ℕ) (b : BatchValue) → b ≡ sent_batch v target i → get_or v.marks i false ≡ true → has_bit (get_or v.part.feeds i 0) target ≡ true → id ≡ i * v.part.plan.parts + v.part.number → row ≡ get_or v.rows i [] →
    record b { rows = b.rows ++ (id, row) ∷ [] } ≡ sent_batch v target (i + 1)
unfolding sent_batch
sent_yes v target i id row b is mark fed vertex at = grind (arith, sent_more)

-- or none
pub sent_no : (v : State) (target i : ℕ) (b : BatchValue) → b ≡ sent_batch v target i → (get_or v.marks i false && has_bit (get_or v.part.feeds i 0) target) ≡ false → b ≡ sent_batch v target (i + 1)
unfolding sent_batch
sent_no v target i b is off = grind (arith, sent_more, append-nil)

-- or passes over vertices that did not change
pub sent_over : (v : State) (target from next : ℕ) (b : BatchValue) → IsNextMarked v.marks from next → b ≡ sent_batch v target from → b ≡ sent_batch v target next
sent_over v target from next b is =
    at_next (λ n. b ≡ sent_batch v target n) v.marks from next is
    (λ k low lt off so_far. sent_no v target k b so_far (and_left (get_or v.marks k false) (has_bit (get_or v.part.feeds k 0) target) off))

-- the row of a vertex of the partition is one that the batch may have
pub sent_fits : (v : State) (target i id : ℕ) (row : List ℕ) (b : BatchValue) → IsState v → b ≡ sent_batch v target i → i < length v.part.preds → id ≡ i * v.part.plan.parts + v.part.number → row ≡ get_or v.rows i [] → IsRow b.plan b.name.source (id, row)
unfolding sent_batch
sent_fits v target i id row b s is lt vertex at = grind (arith, own_below, own_part)

below_more : (xs : List (ℕ × List ℕ)) (a b : ℕ) → a ≤ b → AllByRecursion (λ row. row.0 < a) xs → AllByRecursion (λ row. row.0 < b) xs
below_more [] a b le h = tt
below_more (x ∷ xs) a b le h = (let lt : x.0 < a = h.0 in omega arith, below_more xs a b le h.1)

below_both : (xs ys : List (ℕ × List ℕ)) (b : ℕ) → AllByRecursion (λ row. row.0 < b) xs → AllByRecursion (λ row. row.0 < b) ys → AllByRecursion (λ row. row.0 < b) (xs ++ ys)
below_both xs ys b p q = grind (arith, common_steps)

below_if : (t : Bool) (x : ℕ × List ℕ) (b : ℕ) → x.0 < b → AllByRecursion (λ row. row.0 < b) (if t then x ∷ [] else [])
below_if t x b lt = grind arith

pub sent_below : (v : State) (target n : ℕ) → 1 ≤ v.part.plan.parts → AllByRecursion (λ row. row.0 < n * v.part.plan.parts + v.part.number) (sent_rows v target n)
unfolding sent_rows
sent_below v target zero some = tt
sent_below v target (suc n) some =
    let e : n + 1 ≡ suc n = omega arith in
    let p = v.part.plan.parts in
    let bound = (n + 1) * p + v.part.number in
    let less : n * p + v.part.number ≤ bound = omega arith in
    let next : n * p + v.part.number < bound = omega arith in
    let both = below_both (sent_rows v target n) (sent_row v target n) bound (below_more (sent_rows v target n) (n * p + v.part.number) bound less (sent_below v target n some)) (below_if (get_or v.marks n false && has_bit (get_or v.part.feeds n 0) target) (n * p + v.part.number, get_or v.rows n []) bound next) in
    subst (λ (k : ℕ). AllByRecursion (λ row. row.0 < k * p + v.part.number) (sent_rows v target k)) e
    (subst (λ (l : List (ℕ × List ℕ)). AllByRecursion (λ row. row.0 < bound) l) (sym (sent_more v target n)) both)

pub ids_below : (xs : List (ℕ × List ℕ)) (b : ℕ) → AllByRecursion (λ row. row.0 < b) xs → (k d : ℕ) → k < length (ids_of xs) → get_or (ids_of xs) k d < b
ids_below [] b h k d lt = absurd (omega arith)
ids_below (x ∷ xs) b h zero d lt = h.0
ids_below (x ∷ xs) b h (suc k) d lt = ids_below xs b h.1 k d (omega arith)

-- the vertices that the batch has come before
pub sent_above : (v : State) (target i id : ℕ) (b : BatchValue) → IsState v → b ≡ sent_batch v target i → id ≡ i * v.part.plan.parts + v.part.number → (k d : ℕ) → k < length (ids_of b.rows) → get_or (ids_of b.rows) k d < id
unfolding sent_batch
sent_above v target i id b s is vertex =
    let rows : b.rows ≡ sent_rows v target i = ap (λ (a : BatchValue). a.rows) is in
    rw (rows, vertex) (ids_below (sent_rows v target i) (i * v.part.plan.parts + v.part.number) (sent_below v target i s.part.plan.parts_from))

abbrev set_count : List Bool → ℕ
set_count marks = length (filter (λ mark. mark) marks)

one_if : (m f : Bool) (x : ℕ × List ℕ) → length (if m && f then x ∷ [] else []) ≤ set_count (m ∷ [])
one_if m f x = grind arith

count_if : (b : Bool) (rest short : List Bool) → set_count short ≤ set_count rest → length (if b then (b ∷ filter (λ mark. mark) short) else filter (λ mark. mark) short) ≤ length (if b then (b ∷ filter (λ mark. mark) rest) else filter (λ mark. mark) rest)
count_if b rest short le = grind arith

pub count_take : (n : ℕ) (marks : List Bool) → set_count (take n marks) ≤ set_count marks
count_take zero marks = omega arith
count_take (suc n) [] = omega arith
count_take (suc n) (m ∷ marks) = count_if m marks (take n marks) (count_take n marks)

pub count_next : (marks : List Bool) (n : ℕ) → n < length marks → set_count (take (n + 1) marks) ≡ set_count (take n marks) + set_count (get_or marks n false ∷ [])
count_next marks n lt = grind (arith, common_steps)

pub sent_short : (v : State) (target n : ℕ) → n ≤ length v.marks → length (sent_rows v target n) ≤ set_count (take n v.marks)
unfolding sent_rows
sent_short v target zero le = omega arith
sent_short v target (suc n) le =
    let e : n + 1 ≡ suc n = omega arith in
    let before = sent_short v target n (omega arith) in
    let one = one_if (get_or v.marks n false) (has_bit (get_or v.part.feeds n 0) target) (n * v.part.plan.parts + v.part.number, get_or v.rows n []) in
    subst (λ (k : ℕ). length (sent_rows v target k) ≤ set_count (take k v.marks)) e
    (omega (arith, ap (length {A = ℕ × List ℕ}) (sent_more v target n), length-append (sent_rows v target n) (sent_row v target n), before, one, count_next v.marks n (omega arith)))

-- there is room for the row of a marked vertex
pub sent_room : (v : State) (target i : ℕ) (b : BatchValue) → b ≡ sent_batch v target i → i < length v.marks → get_or v.marks i false ≡ true → length b.rows < b.changed
unfolding sent_batch
sent_room v target i b is lt mark = grind (arith, common_steps, sent_short, length-filter)

-- the batch without rows
pub sent_first : (v : State) (target : ℕ) {plan : PlanValue} {superstep source changed : ℕ} → plan ≡ v.part.plan → superstep ≡ v.superstep → source ≡ v.part.number → changed ≡ count_by (λ mark. mark) v.marks →
    record { plan = plan; name = record { superstep = superstep; source = source; target = target }; changed = changed; rows = [] } ≡ sent_batch v target 0
unfolding sent_batch sent_rows
sent_first v target p t q n = rw (p, t, q, n) refl

-- its target
pub sent_target : (v : State) (target n : ℕ) (b : BatchValue) → b ≡ sent_batch v target n → b.name.target ≡ target
unfolding sent_batch
sent_target v target n b is = ap (λ (a : BatchValue). a.name.target) is
