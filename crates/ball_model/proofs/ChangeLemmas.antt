-- Only changed predecessors count.
use Rattle.std.proofs.Common.{◌≡◌, ℕ, zero, suc, ◌+◌, ◌-◌, ◌<◌, Bool, true, false, not, ◌&&◌, ◌||◌, ◌==◌, List, [], ◌∷◌, if◌then◌else◌, refl, ap, arith, sym, ◌∙◌, tests}
use Rattle.std.proofs.lemmas.Bool.{and_from, and_parts, or_left, not-false}
use Rattle.std.specs.List.{range_with_len, filter, fold, AllByRecursion}
use Rattle.std.specs.Str.{bytes_eq}
use Rattle.std.proofs.lemmas.Slice.Eq.{bytes_eq-Decides}
use Rattle.ball_model.specs.Graph.{Graph, IsGraph, is_edge, in_ball, preds_of, is_counted}
use Rattle.ball_model.specs.Counter.{Mixing, counter_of, ball_counter, max_each}
use Rattle.ball_model.specs.Graph.{in_ball_before}
use Rattle.ball_model.specs.Change.{changed_at}
use Rattle.ball_model.proofs.PathLemmas.{in_ball-step}
use Rattle.ball_model.proofs.CounterLemmas.{counter_of-same, counter_of-or, ball_counter-suc, kept_one}

-- a vertex that has not changed has the counter from before
unchanged_counter : (m : Mixing) (g : Graph) (z t : ℕ) → changed_at m g z t ≡ false → ball_counter m g z t ≡ counter_of m g.vertices (λ y. in_ball_before g z t y && is_counted g y)
unfolding changed_at
unchanged_counter m g z t e = grind (arith, bytes_eq-Decides, not-false)

-- what was in a predecessor's ball before is in the ball
before_in : (g : Graph) (x z t y : ℕ) → IsGraph g → is_edge g z x ≡ true → in_ball_before g z t y ≡ true → in_ball g x t y ≡ true
unfolding in_ball_before
before_in g x z zero y ok edge e = absurd (cc)
before_in g x z (suc t) y ok edge e =
    let same : suc t ≡ t + 1 = omega arith in
    let one : suc t - 1 ≡ t = omega arith in
    let here : in_ball g z t y ≡ true = rw one at ((and_parts (not (suc t == 0)) (in_ball g z (suc t - 1) y) e).1) in
    rw same (in_ball-step g x z t y ok edge here)

or_of_less : (a b : Bool) → (b ≡ true → a ≡ true) → (a || b) ≡ a
or_of_less true b h = refl
or_of_less false true h = sym (h refl)
or_of_less false false h = refl

-- a set that has the counted vertices of z's ball from before is not raised by an unchanged z
unraised : (m : Mixing) (g : Graph) (x z t : ℕ) (A : ℕ → Bool) → IsGraph g → is_edge g z x ≡ true → ((y : ℕ) → (in_ball g x t y && is_counted g y) ≡ true → A y ≡ true) →
    changed_at m g z t ≡ false → max_each (counter_of m g.vertices A) (ball_counter m g z t) ≡ counter_of m g.vertices A
unraised m g x z t A ok edge has same =
    ap (max_each (counter_of m g.vertices A)) (unchanged_counter m g z t same)
    ∙ sym (counter_of-or m g.vertices A (λ y. in_ball_before g z t y && is_counted g y))
    ∙ counter_of-same m g.vertices (λ y. A y || (in_ball_before g z t y && is_counted g y)) A
    (λ y lt. or_of_less (A y) (in_ball_before g z t y && is_counted g y)
    (λ e. has y (and_from (in_ball g x t y) (is_counted g y) (before_in g x z t y ok edge ((and_parts (in_ball_before g z t y) (is_counted g y) e).0)) ((and_parts (in_ball_before g z t y) (is_counted g y) e).1))))

-- the maximum over all of these predecessors is the maximum over the changed ones
one_more : (m : Mixing) (g : Graph) (x z t : ℕ) (A : ℕ → Bool) (b : Bool) (rest : List ℕ) → IsGraph g → is_edge g z x ≡ true → ((y : ℕ) → (in_ball g x t y && is_counted g y) ≡ true → A y ≡ true) → changed_at m g z t ≡ b →
    ((B : ℕ → Bool) → ((y : ℕ) → (in_ball g x t y && is_counted g y) ≡ true → B y ≡ true) →
    fold (λ acc w. max_each acc (ball_counter m g w t)) (counter_of m g.vertices B) rest ≡ fold (λ acc w. max_each acc (ball_counter m g w t)) (counter_of m g.vertices B) (filter (λ w. changed_at m g w t) rest)) →
    fold (λ acc w. max_each acc (ball_counter m g w t)) (max_each (counter_of m g.vertices A) (ball_counter m g z t)) rest
    ≡ fold (λ acc w. max_each acc (ball_counter m g w t)) (counter_of m g.vertices A) (if b then (z ∷ filter (λ w. changed_at m g w t) rest) else filter (λ w. changed_at m g w t) rest)
one_more m g x z t A true rest ok edge has at later =
    let sum : max_each (counter_of m g.vertices A) (ball_counter m g z t) ≡ counter_of m g.vertices (λ y. A y || (in_ball g z t y && is_counted g y)) = unfold ball_counter in (sym (counter_of-or m g.vertices A (λ y. in_ball g z t y && is_counted g y))) in
    ap (λ row. fold (λ acc w. max_each acc (ball_counter m g w t)) row rest) sum
    ∙ later (λ y. A y || (in_ball g z t y && is_counted g y)) (λ y e. or_left (A y) (in_ball g z t y && is_counted g y) (has y e))
    ∙ ap (λ row. fold (λ acc w. max_each acc (ball_counter m g w t)) row (filter (λ w. changed_at m g w t) rest)) (sym sum)
one_more m g x z t A false rest ok edge has at later =
    ap (λ row. fold (λ acc w. max_each acc (ball_counter m g w t)) row rest) (unraised m g x z t A ok edge has at) ∙ later A has

pub changed_only : (m : Mixing) (g : Graph) (x t : ℕ) (A : ℕ → Bool) (zs : List ℕ) → IsGraph g → AllByRecursion (λ z. is_edge g z x ≡ true) zs → ((y : ℕ) → (in_ball g x t y && is_counted g y) ≡ true → A y ≡ true) →
    fold (λ acc z. max_each acc (ball_counter m g z t)) (counter_of m g.vertices A) zs ≡ fold (λ acc z. max_each acc (ball_counter m g z t)) (counter_of m g.vertices A) (filter (λ z. changed_at m g z t) zs)
changed_only m g x t A [] ok edges has = refl
changed_only m g x t A (z ∷ zs) ok edges has =
    one_more m g x z t A (changed_at m g z t) zs ok edges.0 has refl (λ B hasB. changed_only m g x t B zs ok edges.1 hasB)

-- what a filter keeps passes
pub filter_passes : (q : ℕ → Bool) (xs : List ℕ) → AllByRecursion (λ z. q z ≡ true) (filter q xs)
filter_passes q [] = tt
filter_passes q (x ∷ xs) = kept_one (q x) (λ z. q z ≡ true) x (filter q xs) (λ e. e) (filter_passes q xs)

-- a vertex has changed at t + 1 where its row became another
pub changed_next : (m : Mixing) (g : Graph) (x t : ℕ) → changed_at m g x (t + 1) ≡ not (bytes_eq (ball_counter m g x (t + 1)) (ball_counter m g x t))
unfolding changed_at in_ball_before ball_counter
changed_next m g x t =
    let one : t + 1 - 1 ≡ t = omega arith in
    let later : (t + 1 == 0) ≡ false = search (tests, arith) in
    rw (one, later) refl

-- THE STEP over changed predecessors alone
pub changed_suffice : (m : Mixing) (g : Graph) (x t : ℕ) → IsGraph g → x < g.vertices →
    ball_counter m g x (t + 1) ≡ fold (λ acc z. max_each acc (ball_counter m g z t)) (ball_counter m g x t) (filter (λ z. changed_at m g z t) (preds_of g x))
changed_suffice m g x t ok lt =
    let only : fold (λ acc z. max_each acc (ball_counter m g z t)) (ball_counter m g x t) (preds_of g x) ≡ fold (λ acc z. max_each acc (ball_counter m g z t)) (ball_counter m g x t) (filter (λ z. changed_at m g z t) (preds_of g x)) =
    unfold ball_counter in (changed_only m g x t (λ y. in_ball g x t y && is_counted g y) (preds_of g x) ok (filter_passes (λ z. is_edge g z x) (range_with_len 0 g.vertices)) (λ y e. e)) in
    ball_counter-suc m g x t ok lt ∙ only
