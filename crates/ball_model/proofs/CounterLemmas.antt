-- Counters of unions, and the step from one superstep to the next.
use Rattle.std.proofs.Common.{◌≡◌, ℕ, zero, suc, ◌+◌, ◌<◌, ◌≤◌, ◌^◌, max, Bool, true, false, ◌&&◌, ◌||◌, ◌==◌, List, [], ◌∷◌, map, if◌then◌else◌, refl, ap, arith, sym, ◌∙◌}
use Rattle.std.proofs.Math.Bool.{or_assoc, or-false, and-or_distrib_right}
use Rattle.std.specs.List.{list_any, range_with_len, filter, fold, AllByRecursion}
use Rattle.ball_model.specs.Hash.{hash_of, index_of, rank_of}
use Rattle.ball_model.specs.Graph.{Graph, IsGraph, in_ball, preds_of, is_counted}
use Rattle.ball_model.specs.Counter.{Mixing, register_of, counter_of, ball_counter, max_each}
use Rattle.ball_model.proofs.GreatestLemmas.{greatest-or, greatest-same}
use Rattle.ball_model.proofs.PathLemmas.{in_ball-suc}

-- the maximum in each place, of two lists made by functions
max_each-map : (f g : ℕ → ℕ) (js : List ℕ) → max_each (map f js) (map g js) ≡ map (λ j. max (f j) (g j)) js
max_each-map f g [] = refl
max_each-map f g (j ∷ js) = ap (λ rest. max (f j) (g j) ∷ rest) (max_each-map f g js)

pub map-same : {A B : Type 0} (f g : A → B) (xs : List A) → ((x : A) → f x ≡ g x) → map f xs ≡ map g xs
map-same f g [] h = refl
map-same f g (x ∷ xs) h = rw (h x, map-same f g xs h) refl

-- only which vertices below n are members counts
pub register_of-same : (m : Mixing) (n : ℕ) (A B : ℕ → Bool) (j : ℕ) → ((v : ℕ) → v < n → A v ≡ B v) → register_of m n A j ≡ register_of m n B j
unfolding register_of
register_of-same m n A B j h =
    greatest-same _ _ (λ v. rank_of m.log2m (hash_of m.seed v)) n (λ v lt. ap (λ b. b && (index_of m.log2m (hash_of m.seed v) == j)) (h v lt))

pub counter_of-same : (m : Mixing) (n : ℕ) (A B : ℕ → Bool) → ((v : ℕ) → v < n → A v ≡ B v) → counter_of m n A ≡ counter_of m n B
unfolding counter_of
counter_of-same m n A B h = map-same (λ j. register_of m n A j) (λ j. register_of m n B j) (range_with_len 0 (2 ^ m.log2m)) (λ j. register_of-same m n A B j h)

-- the counter of a union is the maximum in each place
pub register_of-or : (m : Mixing) (n : ℕ) (A B : ℕ → Bool) (j : ℕ) → register_of m n (λ v. A v || B v) j ≡ max (register_of m n A j) (register_of m n B j)
unfolding register_of
register_of-or m n A B j =
    let here : ℕ → Bool = λ v. index_of m.log2m (hash_of m.seed v) == j in
    greatest-same (λ v. (A v || B v) && here v) (λ v. (A v && here v) || (B v && here v)) (λ v. rank_of m.log2m (hash_of m.seed v)) n (λ v lt. and-or_distrib_right (A v) (B v) (here v))
    ∙ greatest-or (λ v. A v && here v) (λ v. B v && here v) (λ v. rank_of m.log2m (hash_of m.seed v)) n

pub counter_of-or : (m : Mixing) (n : ℕ) (A B : ℕ → Bool) → counter_of m n (λ v. A v || B v) ≡ max_each (counter_of m n A) (counter_of m n B)
unfolding counter_of
counter_of-or m n A B =
    map-same (λ j. register_of m n (λ v. A v || B v) j) (λ j. max (register_of m n A j) (register_of m n B j)) (range_with_len 0 (2 ^ m.log2m)) (λ j. register_of-or m n A B j)
    ∙ sym (max_each-map (λ j. register_of m n A j) (λ j. register_of m n B j) (range_with_len 0 (2 ^ m.log2m)))

-- a union of many sets
pub counter_of-union : (m : Mixing) (n : ℕ) (A : ℕ → Bool) (B : ℕ → ℕ → Bool) (zs : List ℕ) →
    counter_of m n (λ v. A v || list_any (λ z. B z v) zs) ≡ fold (λ acc z. max_each acc (counter_of m n (B z))) (counter_of m n A) zs
counter_of-union m n A B [] = counter_of-same m n (λ v. A v || false) A (λ v lt. or-false (A v))
counter_of-union m n A B (z ∷ zs) =
    counter_of-same m n (λ v. A v || (B z v || list_any (λ w. B w v) zs)) (λ v. (A v || B z v) || list_any (λ w. B w v) zs) (λ v lt. sym (or_assoc (A v) (B z v) (list_any (λ w. B w v) zs)))
    ∙ counter_of-union m n (λ v. A v || B z v) B zs
    ∙ ap (λ start. fold (λ acc w. max_each acc (counter_of m n (B w))) start zs) (counter_of-or m n A (B z))

any_and : (p : ℕ → Bool) (k : Bool) (zs : List ℕ) → (list_any p zs && k) ≡ list_any (λ z. p z && k) zs
any_and p k [] = refl
any_and p k (z ∷ zs) = and-or_distrib_right (p z) (list_any p zs) k ∙ ap (λ r. (p z && k) || r) (any_and p k zs)

-- the counted vertices of the ball at t + 1 are those of the ball at t and of those of the predecessors
pub counted_ball-suc : (g : Graph) (x t y : ℕ) → IsGraph g → x < g.vertices →
    (in_ball g x (t + 1) y && is_counted g y) ≡ ((in_ball g x t y && is_counted g y) || list_any (λ z. in_ball g z t y && is_counted g y) (preds_of g x))
counted_ball-suc g x t y ok lt =
    let k = is_counted g y in
    ap (λ b. b && k) (in_ball-suc g x t y ok lt)
    ∙ and-or_distrib_right (in_ball g x t y) (list_any (λ z. in_ball g z t y) (preds_of g x)) k
    ∙ ap (λ r. (in_ball g x t y && k) || r) (any_and (λ z. in_ball g z t y) k (preds_of g x))

-- THE STEP: the counter at t + 1 is the maximum of those at t, of the vertex and of its predecessors
pub ball_counter-suc : (m : Mixing) (g : Graph) (x t : ℕ) → IsGraph g → x < g.vertices →
    ball_counter m g x (t + 1) ≡ fold (λ acc z. max_each acc (ball_counter m g z t)) (ball_counter m g x t) (preds_of g x)
unfolding ball_counter
ball_counter-suc m g x t ok lt =
    counter_of-same m g.vertices (λ y. in_ball g x (t + 1) y && is_counted g y)
    (λ y. (in_ball g x t y && is_counted g y) || list_any (λ z. in_ball g z t y && is_counted g y) (preds_of g x)) (λ y below. counted_ball-suc g x t y ok lt)
    ∙ counter_of-union m g.vertices (λ y. in_ball g x t y && is_counted g y) (λ z y. in_ball g z t y && is_counted g y) (preds_of g x)

-- what holds of a filtered list, with one more item in front that is kept where the test says so
pub kept_one : (b : Bool) (P : ℕ → Type 0) (x : ℕ) (rest : List ℕ) → (b ≡ true → P x) → AllByRecursion P rest → AllByRecursion P (if b then (x ∷ rest) else rest)
kept_one true P x rest here later = (here refl, later)
kept_one false P x rest here later = later

pub range_all : (P : ℕ → Type 0) (q : ℕ → Bool) (a n bound : ℕ) → a + n ≤ bound → ((k : ℕ) → k < bound → P k) → AllByRecursion P (filter q (range_with_len a n))
range_all P q a zero bound fits h = tt
range_all P q a (suc n) bound fits h = kept_one (q a) P a _ (λ e. h a (omega arith)) (range_all P q (a + 1) n bound (omega arith) h)
