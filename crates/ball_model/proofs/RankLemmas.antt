-- Registers are at most 33, never fall as the ball grows, and at 0 are those of the vertex alone.
use Rattle.std.proofs.Common.{◌≡◌, ℕ, ◌+◌, ◌-◌, ◌<◌, ◌≤◌, ◌^◌, Bool, true, false, ◌&&◌, ◌==◌, nat_eq, List, [], ◌∷◌, length, get_or, set, replicate, if◌then◌else◌, refl, arith, sym, subst, ap, ◌∙◌, ◌≢◌, le_antisymm}
use Rattle.std.specs.Cmp.{both_ways}
use Rattle.std.proofs.lemmas.Bool.{and_from, and_parts, eqb-true, eq-eqb, false≢true}
use Rattle.std.proofs.Math.Bool.{and-true, and-false}
use Rattle.std.specs.List.{All}
use Rattle.std.proofs.lemmas.List.{length-map, get_or-set_same, get_or-set_other, ext_get_or, length-replicate, get_or-replicate, length-set}
use Rattle.std.proofs.lemmas.List.FromFn.{length-range_with_len, length-map-range_with_len, get_or-map-range_with_len}
use Rattle.std.proofs.lemmas.List.Elements.{All-from_get_or}
use Rattle.ball_model.specs.Greatest.{greatest}
use Rattle.ball_model.specs.Hash.{hash_of, index_of, tail_of, rank_of, floor_log2}
use Rattle.ball_model.specs.Graph.{Graph, IsGraph, is_path, in_ball, is_counted}
use Rattle.ball_model.specs.Counter.{Mixing, register_of, counter_of, ball_counter}
use Rattle.ball_model.proofs.BoolLemmas.{by_cases}
use Rattle.ball_model.proofs.GreatestLemmas.{greatest-bounds, greatest-least}
use Rattle.ball_model.proofs.PathLemmas.{in_ball-grows, in_ball-found, in_ball-finds, path_here}
use Rattle.ball_model.proofs.CounterLemmas.{register_of-same, counter_of-same}

rank_le_if : (b : Bool) (k : ℕ) → (if b then 33 else 32 - k) ≤ 33
rank_le_if true k = omega arith
rank_le_if false k = omega arith

pub rank_le : (log2m hash : ℕ) → rank_of log2m hash ≤ 33
unfolding rank_of
rank_le log2m hash = rank_le_if (tail_of log2m hash == 0) (floor_log2 (tail_of log2m hash))

pub register_le : (m : Mixing) (n : ℕ) (A : ℕ → Bool) (j : ℕ) → register_of m n A j ≤ 33
unfolding register_of
register_le m n A j = greatest-least _ (λ v. rank_of m.log2m (hash_of m.seed v)) n 33 (λ v lt pass. rank_le m.log2m (hash_of m.seed v))

pub counter_length : (m : Mixing) (g : Graph) (x t : ℕ) → length (ball_counter m g x t) ≡ 2 ^ m.log2m
unfolding ball_counter counter_of
counter_length m g x t = simp (length-map, length-range_with_len) refl

counter_at : (m : Mixing) (n : ℕ) (A : ℕ → Bool) (j d : ℕ) → j < 2 ^ m.log2m → get_or (counter_of m n A) j d ≡ register_of m n A j
unfolding counter_of
counter_at m n A j d lt = get_or-map-range_with_len (λ j. register_of m n A j) 0 (2 ^ m.log2m) j j d lt (omega arith)

pub ball_at : (m : Mixing) (g : Graph) (x t j d : ℕ) → j < 2 ^ m.log2m → get_or (ball_counter m g x t) j d ≡ register_of m g.vertices (λ y. in_ball g x t y && is_counted g y) j
unfolding ball_counter
ball_at m g x t j d lt = counter_at m g.vertices (λ y. in_ball g x t y && is_counted g y) j d lt

-- all registers are at most 33
pub ball_ranks : (m : Mixing) (g : Graph) (x t j d : ℕ) → j < length (ball_counter m g x t) → get_or (ball_counter m g x t) j d ≤ 33
ball_ranks m g x t j d lt =
    let in_row : j < 2 ^ m.log2m = omega (arith, counter_length m g x t) in
    rw (ball_at m g x t j d in_row) (register_le m g.vertices (λ y. in_ball g x t y && is_counted g y) j)

register_grows : (m : Mixing) (n : ℕ) (A B : ℕ → Bool) (j : ℕ) → ((v : ℕ) → v < n → A v ≡ true → B v ≡ true) → register_of m n A j ≤ register_of m n B j
unfolding register_of
register_grows m n A B j h =
    let f : ℕ → ℕ = λ v. rank_of m.log2m (hash_of m.seed v) in
    let here : ℕ → Bool = λ v. index_of m.log2m (hash_of m.seed v) == j in
    greatest-least (λ v. A v && here v) f n (greatest (λ v. B v && here v) f n)
    (λ v lt pass. greatest-bounds (λ v. B v && here v) f n v lt (and_from (B v) (here v) (h v lt ((and_parts (A v) (here v) pass).0)) ((and_parts (A v) (here v) pass).1)))

-- no register falls
pub ball_grows : (m : Mixing) (g : Graph) (x t j : ℕ) → IsGraph g → x < g.vertices → j < length (ball_counter m g x t) → get_or (ball_counter m g x t) j 0 ≤ get_or (ball_counter m g x (t + 1)) j 0
ball_grows m g x t j ok lt in_len =
    let in_row : j < 2 ^ m.log2m = omega (arith, counter_length m g x t) in
    rw (ball_at m g x t j 0 in_row, ball_at m g x (t + 1) j 0 in_row)
    (register_grows m g.vertices (λ y. in_ball g x t y && is_counted g y) (λ y. in_ball g x (t + 1) y && is_counted g y) j
    (λ v below pass. and_from (in_ball g x (t + 1) v) (is_counted g v) (in_ball-grows g x t v ok lt ((and_parts (in_ball g x t v) (is_counted g v) pass).0)) ((and_parts (in_ball g x t v) (is_counted g v) pass).1)))

-- the ball at 0 is the vertex alone
short_path : (g : Graph) (y x : ℕ) (p : List ℕ) → length p ≤ 1 → is_path g y x p ≡ true → y ≡ x
unfolding is_path
short_path g y x [] le path = absurd (let bad : false ≡ true = path in cc)
short_path g y x (v ∷ []) le path = sym (eqb-true v y ((and_parts (v == y) (v == x) path).0)) ∙ eqb-true v x ((and_parts (v == y) (v == x) path).1)
short_path g y x (v ∷ w ∷ rest) le path = absurd (omega arith)

pub ball_zero : (g : Graph) (x y : ℕ) → IsGraph g → x < g.vertices → in_ball g x 0 y ≡ (y == x)
ball_zero g x y ok lt =
    both_ways (in_ball g x 0 y) (y == x)
    (λ inside. let found = in_ball-finds g x 0 y inside in
    let e : x ≡ y = sym (short_path g y x found.0 (omega (arith, found.1)) found.2) in subst (λ (k : ℕ). (y == k) ≡ true) (sym e) (eq-eqb y y refl))
    (λ same. let e : y ≡ x = eqb-true y x same in
    subst (λ (k : ℕ). in_ball g x 0 k ≡ true) (sym e) (in_ball-found g x 0 x (x ∷ []) ok lt (path_here g x) (omega arith)))

-- the counter of one vertex
pub register_of-one : (m : Mixing) (n x j : ℕ) → x < n → register_of m n (λ y. y == x) j ≡ (if (index_of m.log2m (hash_of m.seed x) == j) then rank_of m.log2m (hash_of m.seed x) else 0)
unfolding register_of
register_of-one m n x j lt =
    let f : ℕ → ℕ = λ v. rank_of m.log2m (hash_of m.seed v) in
    let here : ℕ → Bool = λ v. index_of m.log2m (hash_of m.seed v) == j in
    by_cases (here x) _
    (λ at. rw at (le_antisymm
    (greatest-least (λ v. (v == x) && here v) f n (f x) (λ v below pass. let e : x ≡ v = sym (eqb-true v x ((and_parts (v == x) (here v) pass).0)) in subst (λ (k : ℕ). f k ≤ f x) e (omega arith)))
    (greatest-bounds (λ v. (v == x) && here v) f n x lt (and_from (x == x) (here x) (eq-eqb x x refl) at))))
    (λ off. rw off (le_antisymm
    (greatest-least (λ v. (v == x) && here v) f n 0 (λ v below pass.
    let e : v ≡ x = eqb-true v x ((and_parts (v == x) (here v) pass).0) in
    let bad : here x ≡ true = subst (λ (k : ℕ). here k ≡ true) e ((and_parts (v == x) (here v) pass).1) in
    absurd (let no : true ≡ false = sym bad ∙ off in cc)))
    (omega arith)))

-- the counted vertices of the ball at 0: the vertex itself, where it is counted
counted_here : (b : Bool) (g : Graph) (x y : ℕ) → (y == x) ≡ b → (b && is_counted g y) ≡ (b && is_counted g x)
counted_here true g x y e = ap (is_counted g) (eqb-true y x e)
counted_here false g x y e = refl

counted_zero : (g : Graph) (x y : ℕ) → IsGraph g → x < g.vertices → (in_ball g x 0 y && is_counted g y) ≡ ((y == x) && is_counted g x)
counted_zero g x y ok lt = ap (λ b. b && is_counted g y) (ball_zero g x y ok lt) ∙ counted_here (y == x) g x y refl

register_same : (m : Mixing) (g : Graph) (x j : ℕ) → IsGraph g → x < g.vertices → is_counted g x ≡ true →
    register_of m g.vertices (λ y. in_ball g x 0 y && is_counted g y) j ≡ register_of m g.vertices (λ y. y == x) j
register_same m g x j ok lt counted =
    register_of-same m g.vertices (λ y. in_ball g x 0 y && is_counted g y) (λ y. y == x) j
    (λ v below. counted_zero g x v ok lt ∙ ap (λ b. (v == x) && b) counted ∙ and-true (v == x))

set_at : (w i j r : ℕ) → i < w → j < w → get_or (set (replicate w 0) i r) j 0 ≡ (if (i == j) then r else 0)
set_at w i j r in_i in_j =
    by_cases (nat_eq i j) _
    (λ same. let e : i ≡ j = eqb-true i j same in
    rw same (subst (λ (k : ℕ). get_or (set (replicate w 0) i r) k 0 ≡ r) e (get_or-set_same (replicate w 0) i r 0 (omega (arith, length-replicate {A = ℕ} w 0)))))
    (λ apart. let ne : j ≢ i = λ bad. absurd (let same : (i == j) ≡ true = subst (λ (k : ℕ). (i == k) ≡ true) (sym bad) (eq-eqb i i refl) in (let no : true ≡ false = sym same ∙ apart in cc)) in
    rw (apart, get_or-set_other) (get_or-replicate w j 0 0 in_j))

-- THE START: the counter of a counted vertex at 0 has its own rank in its register, and 0 elsewhere
pub ball_counter-zero : (m : Mixing) (g : Graph) (x : ℕ) → IsGraph g → x < g.vertices → is_counted g x ≡ true → index_of m.log2m (hash_of m.seed x) < 2 ^ m.log2m →
    ball_counter m g x 0 ≡ set (replicate (2 ^ m.log2m) 0) (index_of m.log2m (hash_of m.seed x)) (rank_of m.log2m (hash_of m.seed x))
ball_counter-zero m g x ok lt counted within =
    let w = 2 ^ m.log2m in
    let row = set (replicate w 0) (index_of m.log2m (hash_of m.seed x)) (rank_of m.log2m (hash_of m.seed x)) in
    let wide : length row ≡ w = simp length-set (length-replicate w 0) in
    ext_get_or 0 (ball_counter m g x 0) row (omega (arith, wide, counter_length m g x 0))
    (λ j below.
    let in_row : j < w = omega (arith, counter_length m g x 0) in
    ball_at m g x 0 j 0 in_row
    ∙ register_same m g x j ok lt counted
    ∙ register_of-one m g.vertices x j lt
    ∙ sym (set_at w (index_of m.log2m (hash_of m.seed x)) j (rank_of m.log2m (hash_of m.seed x)) within in_row))

pub counter_of-length : (m : Mixing) (n : ℕ) (A : ℕ → Bool) → length (counter_of m n A) ≡ 2 ^ m.log2m
unfolding counter_of
counter_of-length m n A = length-map-range_with_len (λ j. register_of m n A j) 0 (2 ^ m.log2m)

-- every register of a counter is at most 33
pub counter_of-ranks : (m : Mixing) (n : ℕ) (A : ℕ → Bool) → All (λ r. r ≤ 33) (counter_of m n A)
counter_of-ranks m n A =
    All-from_get_or (λ r. r ≤ 33) (counter_of m n A) 0 (λ j lt. rw (counter_at m n A j 0 (omega (arith, counter_of-length m n A))) (register_le m n A j))

-- no vertex falls into a register of the empty set
register_of-empty : (m : Mixing) (n j : ℕ) → register_of m n (λ _. false) j ≡ 0
unfolding register_of
register_of-empty m n j =
    le_antisymm
    (greatest-least (λ v. false && (index_of m.log2m (hash_of m.seed v) == j)) (λ v. rank_of m.log2m (hash_of m.seed v)) n 0 (λ v lt pass. absurd (false≢true pass)))
    (omega arith)

-- the counter of the empty set is all 0
pub counter_of-empty : (m : Mixing) (n : ℕ) → counter_of m n (λ _. false) ≡ replicate (2 ^ m.log2m) 0
counter_of-empty m n =
    let w = 2 ^ m.log2m in
    ext_get_or 0 (counter_of m n (λ _. false)) (replicate w 0) (counter_of-length m n (λ _. false) ∙ sym (length-replicate w 0))
    (λ j lt.
    let in_row : j < w = omega (arith, counter_of-length m n (λ _. false)) in
    counter_at m n (λ _. false) j 0 in_row ∙ register_of-empty m n j ∙ sym (get_or-replicate w j 0 0 in_row))

-- and that of a vertex that is not counted is empty
pub ball_counter-uncounted : (m : Mixing) (g : Graph) (x : ℕ) → IsGraph g → x < g.vertices → is_counted g x ≡ false → ball_counter m g x 0 ≡ replicate (2 ^ m.log2m) 0
unfolding ball_counter
ball_counter-uncounted m g x ok lt uncounted =
    counter_of-same m g.vertices (λ y. in_ball g x 0 y && is_counted g y) (λ _. false)
    (λ v below. counted_zero g x v ok lt ∙ ap (λ b. (v == x) && b) uncounted ∙ and-false (v == x))
    ∙ counter_of-empty m g.vertices
