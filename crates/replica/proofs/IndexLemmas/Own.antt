-- The vertices of a partition, by their places.
use Rattle.std.proofs.Common.{◌≡◌, ℕ, ◌+◌, ◌*◌, ◌/◌, ◌%◌, ◌<◌, ◌≤◌, true, ◌&&◌, ◌==◌, List, length, map, get_or, nat_lt, ap, arith, ◌∙◌, refl}
use Rattle.replica.proofs.Names.{list_any, range_with_len, get_or-map, length-range_with_len, length-map-range_with_len, get_or-map-range_with_len, eq-eqb, and_from, ltb-true, lt-ltb, vertices_of, part_size, length-filter, count_by-le-length}
use Rattle.std.proofs.Math.Nat.{mul-add-mod_self_right, mod-eq_of_lt}
use Rattle.std.proofs.lemmas.Nat.{div-add-mod'}
use Rattle.std.specs.Cmp.{both_ways, first_so, second_so}
use Rattle.ball_model.proofs.PathLemmas.{any_range, range_any, any_filter}
use Rattle.ball_model.proofs.PartLemmas.{vertices_of-strided, part_size-is}

-- vertex i of partition p
abbrev pub vertex_of : ℕ → ℕ → ℕ → ℕ
vertex_of parts p i = i * parts + p

-- the place of a vertex is below the number of vertices of its partition
pub place_below : (n parts z : ℕ) → 1 ≤ parts → z < n → z / parts < part_size n parts (z % parts)
place_below n parts z some lt = grind (arith, part_size-is)

pub vertex_at : (parts z : ℕ) → 1 ≤ parts → vertex_of parts (z % parts) (z / parts) ≡ z
vertex_at parts z some = div-add-mod' z parts

-- a vertex at a place is a vertex, and it is of the partition
pub own_below : (n parts p i : ℕ) → p < parts → i < part_size n parts p → vertex_of parts p i < n
own_below n parts p i below lt = grind (arith, part_size-is)

pub own_part : (parts p i : ℕ) → p < parts → vertex_of parts p i % parts ≡ p
own_part parts p i below = mul-add-mod_self_right i parts p ∙ mod-eq_of_lt below

-- each vertex is one of its partition
pub is_vertex : (n parts z : ℕ) → z < n → list_any (λ k. k == z) (vertices_of n parts (z % parts)) ≡ true
unfolding vertices_of
is_vertex n parts z lt =
    any_filter (λ k. k == z) (λ v. v % parts == z % parts) (range_with_len 0 n)
    ∙ any_range (λ k. (k % parts == z % parts) && (k == z)) 0 n z (omega arith) (omega arith) (and_from _ _ (eq-eqb (z % parts) (z % parts) refl) (eq-eqb z z refl))

-- what is made of the vertex at place i
pub at_own : {X : Type 0} (f : ℕ → X) (n parts p i : ℕ) (d : X) → p < parts → i < part_size n parts p → get_or (map f (vertices_of n parts p)) i d ≡ f (vertex_of parts p i)
at_own f n parts p i d below lt =
    let g : ℕ → ℕ = λ k. vertex_of parts p k in
    let long : i < length (map g (range_with_len 0 (part_size n parts p))) = omega (arith, length-map-range_with_len g 0 (part_size n parts p)) in
    ap (λ (l : List ℕ). get_or (map f l) i d) (vertices_of-strided n parts p below)
    ∙ get_or-map f (map g (range_with_len 0 (part_size n parts p))) i 0 d long
    ∙ ap f (get_or-map-range_with_len g 0 (part_size n parts p) i i 0 lt (omega arith))

-- a partition has at most all vertices
pub part_size_le : (n parts p : ℕ) → part_size n parts p ≤ n
unfolding vertices_of
part_size_le n parts p = omega (arith, length-filter (λ v. v % parts == p) (range_with_len 0 n), count_by-le-length (λ v. v % parts == p) (range_with_len 0 n), length-range_with_len 0 n)

owned : (x n parts p : ℕ) → list_any (λ k. (k % parts == p) && (k == x)) (range_with_len 0 n) ≡ true → (x < n) × (x % parts ≡ p)
owned x n parts p e = grind (arith, range_any)

-- a partition owns a vertex where it is a vertex, and of that partition
pub owns_is : (x n parts p : ℕ) → list_any (λ v. v == x) (vertices_of n parts p) ≡ (nat_lt x n && (x % parts == p))
unfolding vertices_of
owns_is x n parts p =
    any_filter (λ v. v == x) (λ v. v % parts == p) (range_with_len 0 n)
    ∙ both_ways _ _
    (λ e. let o = owned x n parts p e in and_from (nat_lt x n) (x % parts == p) (lt-ltb x n o.0) (rw o.1 (eq-eqb p p refl)))
    (λ e. let lt : x < n = ltb-true x n (first_so (nat_lt x n) (x % parts == p) e) in
    any_range (λ k. (k % parts == p) && (k == x)) 0 n x (omega arith) (omega arith) (and_from _ _ (second_so (nat_lt x n) (x % parts == p) e) (eq-eqb x x refl)))
