-- Counters at superstep 0, and counters as the ranks of counted vertices with a path.
use Rattle.std.proofs.Common.{◌≡◌, ℕ, ◌+◌, ◌*◌, ◌/◌, ◌<◌, ◌≤◌, ◌^◌, Bool, true, false, not, ◌&&◌, ◌==◌, List, length, get_or, set, replicate, IsTrue, lit<, refl, ap, arith, sym, ◌∙◌}
use Rattle.std.proofs.lemmas.Bool.{and_from, and_parts, eqb-true, eq-eqb, not_from_true}
use Rattle.std.specs.Str.{bytes_eq}
use Rattle.std.proofs.lemmas.Slice.Eq.{bytes_eq-Decides}
use Rattle.std.proofs.lemmas.List.{get_or-set_same, length-replicate, get_or-replicate}
use Rattle.std.proofs.Math.Nat.{mod-lt, div-le_self}
use Rattle.std.proofs.lemmas.Nat.{xor_lt}
use Rattle.ball_model.specs.Hash.{hash_of, index_of, rank_of, plus64, times64, xor_shift}
use Rattle.ball_model.specs.Graph.{Graph, IsGraph, is_path, in_ball, in_ball_before, is_counted}
use Rattle.ball_model.specs.Counter.{Mixing, register_of, ball_counter}
use Rattle.ball_model.specs.Change.{changed_at}
use Rattle.ball_model.proofs.GreatestLemmas.{greatest-bounds, greatest-least}
use Rattle.ball_model.proofs.HashLemmas.{rank_of-code, index_of-lt}
use Rattle.ball_model.proofs.PathLemmas.{in_ball-found, in_ball-finds, path_from_below}
use Rattle.ball_model.proofs.RankLemmas.{ball_at, ball_counter-zero, ball_counter-uncounted, counter_of-empty}

-- a hash is a number of 64 bits
pub hash_small : (seed x : ℕ) → hash_of seed x < 2 ^ 64
unfolding hash_of
hash_small seed x =
    let start = plus64 seed (times64 (x + 1) 0x9e3779b97f4a7c15) in
    let second = times64 (xor_shift 30 start) 0xbf58476d1ce4e5b9 in
    let third = times64 (xor_shift 27 second) 0x94d049bb133111eb in
    let small : third < 2 ^ 64 = mod-lt (xor_shift 27 second * 0x94d049bb133111eb) (lit< tt) in
    xor_lt 64 third (third / 2 ^ 31) small (omega (arith, div-le_self third (2 ^ 31)))

-- an index is one of a register
pub index_small : (m : Mixing) (x : ℕ) → m.log2m ≤ 10 → index_of m.log2m (hash_of m.seed x) < 2 ^ m.log2m
unfolding index_of
index_small m x to = index_of-lt m.log2m (hash_of m.seed x) to (hash_small m.seed x)

rank_from : (log2m hash : ℕ) → 1 ≤ rank_of log2m hash
rank_from log2m hash = omega (arith, rank_of-code log2m hash)

not_zero : (w i r : ℕ) → i < w → 1 ≤ r → set (replicate w 0) i r ≡ replicate w 0 → ⊥
not_zero w i r lt some same =
    let at : get_or (set (replicate w 0) i r) i 0 ≡ r = get_or-set_same (replicate w 0) i r 0 (omega (arith, length-replicate {A = ℕ} w 0)) in
    let none : get_or (set (replicate w 0) i r) i 0 ≡ 0 = ap (λ (l : List ℕ). get_or l i 0) same ∙ get_or-replicate w i 0 0 lt in
    omega arith

differ : (a b : List ℕ) → (a ≡ b → ⊥) → not (bytes_eq a b) ≡ true
differ a b ne = grind (arith, bytes_eq-Decides)

-- nothing comes before superstep 0: a vertex is changed there exactly where its counter is not empty
pub changed_where_filled : (m : Mixing) (g : Graph) (x : ℕ) → changed_at m g x 0 ≡ not (bytes_eq (ball_counter m g x 0) (replicate (2 ^ m.log2m) 0))
unfolding changed_at in_ball_before
changed_where_filled m g x = ap (λ (l : List ℕ). not (bytes_eq (ball_counter m g x 0) l)) (counter_of-empty m g.vertices)

-- that is exactly where the vertex is counted
pub changed_where_counted : (m : Mixing) (g : Graph) (x : ℕ) → m.log2m ≤ 10 → IsGraph g → x < g.vertices → changed_at m g x 0 ≡ is_counted g x
changed_where_counted m g x to ok lt = changed_where_filled m g x ∙ by_bool (is_counted g x) refl
  where
    by_bool : (b : Bool) → is_counted g x ≡ b → not (bytes_eq (ball_counter m g x 0) (replicate (2 ^ m.log2m) 0)) ≡ is_counted g x
    by_bool true at =
        differ (ball_counter m g x 0) (replicate (2 ^ m.log2m) 0)
        (λ same. not_zero (2 ^ m.log2m) (index_of m.log2m (hash_of m.seed x)) (rank_of m.log2m (hash_of m.seed x)) (index_small m x to) (rank_from m.log2m (hash_of m.seed x))
        (sym (ball_counter-zero m g x ok lt at (index_small m x to)) ∙ same))
        ∙ sym at
    by_bool false at = not_from_true _ ((bytes_eq-Decides (ball_counter m g x 0) (replicate (2 ^ m.log2m) 0)).1 (ball_counter-uncounted m g x ok lt at)) ∙ sym at

-- a register is at least the rank of each counted vertex with a path that falls into it
pub counter_bounds : (m : Mixing) (g : Graph) (x t j y : ℕ) (path : List ℕ) → IsGraph g → x < g.vertices → j < 2 ^ m.log2m → IsTrue (is_counted g y) →
    IsTrue (is_path g y x path) → length path ≤ t + 1 → index_of m.log2m (hash_of m.seed y) ≡ j → rank_of m.log2m (hash_of m.seed y) ≤ get_or (ball_counter m g x t) j 0
unfolding register_of
counter_bounds m g x t j y path ok lt in_row counted is short falls =
    let place : ℕ → ℕ = λ v. index_of m.log2m (hash_of m.seed v) in
    let member : ℕ → Bool = λ v. in_ball g x t v && is_counted g v in
    let inside : member y ≡ true = and_from (in_ball g x t y) (is_counted g y) (in_ball-found g x t y path ok lt is short) counted in
    rw (ball_at m g x t j 0 in_row)
    (greatest-bounds (λ v. member v && (place v == j)) (λ v. rank_of m.log2m (hash_of m.seed v)) g.vertices y (path_from_below g y x path ok lt is)
    (and_from (member y) (place y == j) inside (ap (λ i. i == j) falls ∙ eq-eqb j j refl)))

-- and at most whatever the ranks of all of them are at most
pub counter_least : (m : Mixing) (g : Graph) (x t j bound : ℕ) → j < 2 ^ m.log2m →
    ((y : ℕ) (path : List ℕ) → IsTrue (is_counted g y) → IsTrue (is_path g y x path) → length path ≤ t + 1 → index_of m.log2m (hash_of m.seed y) ≡ j → rank_of m.log2m (hash_of m.seed y) ≤ bound) →
    get_or (ball_counter m g x t) j 0 ≤ bound
unfolding register_of
counter_least m g x t j bound in_row h =
    let place : ℕ → ℕ = λ v. index_of m.log2m (hash_of m.seed v) in
    let member : ℕ → Bool = λ v. in_ball g x t v && is_counted g v in
    rw (ball_at m g x t j 0 in_row)
    (greatest-least (λ v. member v && (place v == j)) (λ v. rank_of m.log2m (hash_of m.seed v)) g.vertices bound
    (λ v lt pass.
    let inside = (and_parts (member v) (place v == j) pass).0 in
    let found = in_ball-finds g x t v ((and_parts (in_ball g x t v) (is_counted g v) inside).0) in
    h v found.0 ((and_parts (in_ball g x t v) (is_counted g v) inside).1) found.2 found.1 (eqb-true (place v) j ((and_parts (member v) (place v == j) pass).1))))
