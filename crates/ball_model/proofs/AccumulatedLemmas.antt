-- The accumulator of one vertex: which vertices are heard is all that counts, and no order does.
use Rattle.std.proofs.Common.{◌≡◌, ℕ, ◌+◌, ◌<◌, Bool, true, false, ◌&&◌, ◌||◌, ◌==◌, List, [], ◌∷◌, if◌then◌else◌, refl, ap, arith, sym, ◌∙◌, inl, inr}
use Rattle.std.specs.List.{list_any, range_with_len, filter, fold, AllByRecursion}
use Rattle.std.proofs.Math.Bool.{or_assoc, and-or_distrib_right}
use Rattle.std.specs.Cmp.{both_ways}
use Rattle.std.proofs.lemmas.Bool.{false_from_ne_true, and_parts, and_from, or_cases, or_left, or_right, eqb-true, eq-eqb}
use Rattle.ball_model.specs.Graph.{Graph, IsGraph, is_edge, preds_of}
use Rattle.ball_model.specs.Counter.{Mixing, counter_of, ball_counter, max_each}
use Rattle.ball_model.specs.Change.{changed_at}
use Rattle.ball_model.specs.Accumulated.{accumulated_row}
use Rattle.ball_model.proofs.PathLemmas.{any_filter, any_range, range_any, edge_below}
use Rattle.ball_model.proofs.CounterLemmas.{counter_of-same, counter_of-or, counter_of-union}
use Rattle.ball_model.proofs.ChangeLemmas.{filter_passes, changed_suffice}

-- ---- by the heard predecessors alone
kept_alike : (a b : Bool) (z : ℕ) (xs ys : List ℕ) → a ≡ b → xs ≡ ys → (if a then (z ∷ xs) else xs) ≡ (if b then (z ∷ ys) else ys)
kept_alike a b z xs ys test rest = cc

filter_alike : (P : ℕ → Type 0) (q r : ℕ → Bool) (xs : List ℕ) → ((z : ℕ) → P z → q z ≡ r z) → AllByRecursion P xs → filter q xs ≡ filter r xs
filter_alike P q r [] same all = refl
filter_alike P q r (x ∷ xs) same all = kept_alike (q x) (r x) x (filter q xs) (filter r xs) (same x all.0) (filter_alike P q r xs same all.1)

and_alike : (a b c : Bool) → (c ≡ true → a ≡ b) → (a && c) ≡ (b && c)
and_alike a b true h = ap (λ k. k && true) (h refl)
and_alike true true false h = refl
and_alike true false false h = refl
and_alike false true false h = refl
and_alike false false false h = refl

-- two tests that agree on the changed predecessors give one accumulator
pub accumulated-same : (m : Mixing) (g : Graph) (x t : ℕ) (a b : ℕ → Bool) → ((z : ℕ) → is_edge g z x ≡ true → changed_at m g z t ≡ true → a z ≡ b z) → accumulated_row m g x t a ≡ accumulated_row m g x t b
unfolding accumulated_row
accumulated-same m g x t a b same =
    ap (λ zs. fold (λ acc z. max_each acc (ball_counter m g z t)) (ball_counter m g x t) zs)
    (filter_alike (λ z. is_edge g z x ≡ true) (λ z. a z && changed_at m g z t) (λ z. b z && changed_at m g z t) (preds_of g x)
    (λ z edge. and_alike (a z) (b z) (changed_at m g z t) (same z edge))
    (filter_passes (λ z. is_edge g z x) (range_with_len 0 g.vertices)))

filter_none : (xs : List ℕ) → filter (λ z. false) xs ≡ []
filter_none [] = refl
filter_none (x ∷ xs) = filter_none xs

-- where nothing is heard, the accumulator is the counter
pub accumulated-none : (m : Mixing) (g : Graph) (x t : ℕ) → accumulated_row m g x t (λ z. false) ≡ ball_counter m g x t
unfolding accumulated_row
accumulated-none m g x t = ap (λ zs. fold (λ acc z. max_each acc (ball_counter m g z t)) (ball_counter m g x t) zs) (filter_none (preds_of g x))

-- where all is heard, it is the counter at the next superstep
pub accumulated-all : (m : Mixing) (g : Graph) (x t : ℕ) → IsGraph g → x < g.vertices → accumulated_row m g x t (λ z. true) ≡ ball_counter m g x (t + 1)
unfolding accumulated_row
accumulated-all m g x t ok lt = sym (changed_suffice m g x t ok lt)

-- ---- as counters of sets: `told z y` says that y is in the set of z
-- the sets of x and of those of some vertices that pass
abbrev gathered : (ℕ → ℕ → Bool) → List ℕ → ℕ → (ℕ → Bool) → ℕ → Bool
gathered told zs x q y = told x y || list_any (λ z. q z && told z y) zs

-- the counter of the set of x, raised by those of the vertices that pass
abbrev raised : Mixing → ℕ → (ℕ → ℕ → Bool) → List ℕ → ℕ → (ℕ → Bool) → List ℕ
raised m n told zs x q = fold (λ acc z. max_each acc (counter_of m n (told z))) (counter_of m n (told x)) (filter q zs)

gathers : (m : Mixing) (n : ℕ) (told : ℕ → ℕ → Bool) (zs : List ℕ) (x : ℕ) (q : ℕ → Bool) → raised m n told zs x q ≡ counter_of m n (gathered told zs x q)
gathers m n told zs x q =
    sym (counter_of-union m n (told x) told (filter q zs))
    ∙ counter_of-same m n (λ y. told x y || list_any (λ z. told z y) (filter q zs)) (gathered told zs x q) (λ y lt. ap (λ b. told x y || b) (any_filter (λ z. told z y) q zs))

or_mixed : (a b c d : Bool) → ((a || b) || (c || d)) ≡ ((a || c) || (b || d))
or_mixed true b c d = refl
or_mixed false true true d = refl
or_mixed false true false d = refl
or_mixed false false c d = refl

-- what one of two tests passes is what one passes or the other does
pub or_split : (p q r : ℕ → Bool) (xs : List ℕ) → ((z : ℕ) → p z ≡ (q z || r z)) → list_any p xs ≡ (list_any q xs || list_any r xs)
or_split p q r [] h = refl
or_split p q r (x ∷ xs) h = rw (h x, or_split p q r xs h) (or_mixed (q x) (r x) (list_any q xs) (list_any r xs))

or_each : (s q r d : Bool) → s ≡ (q || r) → (s && d) ≡ ((q && d) || (r && d))
or_each s q r d h = ap (λ b. b && d) h ∙ and-or_distrib_right q r d

or_twice : (a b c : Bool) → (a || (b || c)) ≡ ((a || b) || (a || c))
or_twice true b c = refl
or_twice false b c = refl

-- what passes one of two tests
gathered-or : (told : ℕ → ℕ → Bool) (zs : List ℕ) (x y : ℕ) (q r s : ℕ → Bool) → ((z : ℕ) → s z ≡ (q z || r z)) → gathered told zs x s y ≡ (gathered told zs x q y || gathered told zs x r y)
gathered-or told zs x y q r s h =
    ap (λ b. told x y || b) (or_split (λ z. s z && told z y) (λ z. q z && told z y) (λ z. r z && told z y) zs (λ z. or_each (s z) (q z) (r z) (told z y) (h z)))
    ∙ or_twice (told x y) (list_any (λ z. q z && told z y) zs) (list_any (λ z. r z && told z y) zs)

raised-or : (m : Mixing) (n : ℕ) (told : ℕ → ℕ → Bool) (zs : List ℕ) (x : ℕ) (q r s : ℕ → Bool) → ((z : ℕ) → s z ≡ (q z || r z)) →
    max_each (raised m n told zs x q) (raised m n told zs x r) ≡ raised m n told zs x s
raised-or m n told zs x q r s h =
    ap (λ row. max_each row (raised m n told zs x r)) (gathers m n told zs x q)
    ∙ ap (λ row. max_each (counter_of m n (gathered told zs x q)) row) (gathers m n told zs x r)
    ∙ sym (counter_of-or m n (gathered told zs x q) (gathered told zs x r))
    ∙ counter_of-same m n (λ y. gathered told zs x q y || gathered told zs x r y) (gathered told zs x s) (λ y lt. sym (gathered-or told zs x y q r s h))
    ∙ sym (gathers m n told zs x s)

-- a test that z alone can pass
one_passes : (p q : ℕ → Bool) (z : ℕ) (xs : List ℕ) → list_any (λ w. ((w == z) && p w) && q w) xs ≡ true → (p z && q z) ≡ true
one_passes p q z [] e = absurd (cc)
one_passes p q z (x ∷ xs) e = elim (or_cases (((x == z) && p x) && q x) (list_any (λ w. ((w == z) && p w) && q w) xs) e) [
  | inl here ↦
      let both = and_parts ((x == z) && p x) (q x) here in
      let left = and_parts (x == z) (p x) both.0 in
      let same : x ≡ z = eqb-true x z left.0 in
      rw (← same) (and_from (p x) (q x) left.1 both.1)
  | inr later ↦ one_passes p q z xs later
]

one_found : (p q : ℕ → Bool) (z : ℕ) (xs : List ℕ) → list_any (λ w. w == z) xs ≡ true → (p z && q z) ≡ true → list_any (λ w. ((w == z) && p w) && q w) xs ≡ true
one_found p q z [] found e = absurd (cc)
one_found p q z (x ∷ xs) found e = elim (or_cases (x == z) (list_any (λ w. w == z) xs) found) [
  | inl here ↦
      let same : z ≡ x = sym (eqb-true x z here) in
      let at : (p x && q x) ≡ true = rw same at e in
      let parts = and_parts (p x) (q x) at in
      or_left (((x == z) && p x) && q x) _ (and_from ((x == z) && p x) (q x) (and_from (x == z) (p x) here parts.0) parts.1)
  | inr later ↦ or_right (((x == z) && p x) && q x) _ (one_found p q z xs later e)
]

only_one : (p q : ℕ → Bool) (z : ℕ) (xs : List ℕ) → list_any (λ w. w == z) xs ≡ true → list_any (λ w. ((w == z) && p w) && q w) xs ≡ (p z && q z)
only_one p q z xs found = both_ways _ _ (one_passes p q z xs) (one_found p q z xs found)

-- one more that passes
gathered-more : (told : ℕ → ℕ → Bool) (zs : List ℕ) (x z y : ℕ) (q one s : ℕ → Bool) → ((w : ℕ) → s w ≡ (q w || one w)) → list_any (λ w. one w && told w y) zs ≡ told z y →
    (gathered told zs x q y || told z y) ≡ gathered told zs x s y
gathered-more told zs x z y q one s h at =
    or_assoc (told x y) (list_any (λ w. q w && told w y) zs) (told z y)
    ∙ ap (λ b. told x y || b)
    (ap (λ b. list_any (λ w. q w && told w y) zs || b) (sym at)
    ∙ sym (or_split (λ w. s w && told w y) (λ w. q w && told w y) (λ w. one w && told w y) zs (λ w. or_each (s w) (q w) (one w) (told w y) (h w))))

raised-more : (m : Mixing) (n : ℕ) (told : ℕ → ℕ → Bool) (zs : List ℕ) (x z : ℕ) (a c : ℕ → Bool) → list_any (λ w. w == z) zs ≡ true → c z ≡ true →
    max_each (raised m n told zs x (λ w. a w && c w)) (counter_of m n (told z)) ≡ raised m n told zs x (λ w. (a w || (w == z)) && c w)
raised-more m n told zs x z a c found passes =
    let q : ℕ → Bool = λ w. a w && c w in
    let s : ℕ → Bool = λ w. (a w || (w == z)) && c w in
    ap (λ row. max_each row (counter_of m n (told z))) (gathers m n told zs x q)
    ∙ sym (counter_of-or m n (gathered told zs x q) (told z))
    ∙ counter_of-same m n (λ y. gathered told zs x q y || told z y) (gathered told zs x s)
    (λ y lt. gathered-more told zs x z y q (λ w. (w == z) && c w) s (λ w. and-or_distrib_right (a w) (w == z) (c w))
    (only_one c (λ w. told w y) z zs found ∙ ap (λ b. b && told z y) passes))
    ∙ sym (gathers m n told zs x s)

-- ---- one or the other heard
-- THE JOIN: the maximum of two accumulators is that of what either heard
pub accumulated-or : (m : Mixing) (g : Graph) (x t : ℕ) (a b : ℕ → Bool) →
    max_each (accumulated_row m g x t a) (accumulated_row m g x t b) ≡ accumulated_row m g x t (λ z. a z || b z)
unfolding accumulated_row ball_counter
accumulated-or m g x t a b =
    raised-or m g.vertices _ (preds_of g x) x (λ z. a z && changed_at m g z t) (λ z. b z && changed_at m g z t) (λ z. (a z || b z) && changed_at m g z t)
    (λ z. and-or_distrib_right (a z) (b z) (changed_at m g z t))

-- ---- one more heard
-- a vertex is among the predecessors exactly where it has an edge
pub any_pred : (g : Graph) (z x : ℕ) → IsGraph g → list_any (λ w. w == z) (preds_of g x) ≡ is_edge g z x
any_pred g z x ok =
    any_filter (λ w. w == z) (λ y. is_edge g y x) (range_with_len 0 g.vertices)
    ∙ both_ways _ _
    (λ e.
    let found = range_any (λ k. is_edge g k x && (k == z)) 0 g.vertices e in
    let parts = and_parts (is_edge g found.0 x) (found.0 == z) found.3 in
    ap (λ k. is_edge g k x) (sym (eqb-true found.0 z parts.1)) ∙ parts.0)
    (λ edge. any_range (λ k. is_edge g k x && (k == z)) 0 g.vertices z (omega arith) (omega (arith, (edge_below g z x ok edge).0)) (and_from (is_edge g z x) (z == z) edge (eq-eqb z z refl)))

-- THE STEP: raised by the counter of a changed predecessor, an accumulator is that with the predecessor heard too
pub accumulated-more : (m : Mixing) (g : Graph) (x z t : ℕ) (a : ℕ → Bool) → IsGraph g → is_edge g z x ≡ true → changed_at m g z t ≡ true →
    max_each (accumulated_row m g x t a) (ball_counter m g z t) ≡ accumulated_row m g x t (λ w. a w || (w == z))
unfolding accumulated_row ball_counter
accumulated-more m g x z t a ok edge changed =
    raised-more m g.vertices _ (preds_of g x) x z a (λ w. changed_at m g w t) (any_pred g z x ok ∙ edge) changed

or_no : (a b : Bool) → b ≡ false → a ≡ (a || b)
or_no true b e = refl
or_no false b e = sym e

-- and where there is no edge, nothing has to be done
pub accumulated-other : (m : Mixing) (g : Graph) (x z t : ℕ) (a : ℕ → Bool) → is_edge g z x ≡ false → accumulated_row m g x t a ≡ accumulated_row m g x t (λ w. a w || (w == z))
accumulated-other m g x z t a none =
    accumulated-same m g x t a (λ w. a w || (w == z))
    (λ w edge changed. or_no (a w) (w == z) (false_from_ne_true (w == z) (λ e. let s : w ≡ z = eqb-true w z e in let yes : is_edge g z x ≡ true = rw s at edge in cc)))

-- both in one
pub accumulated-step : (m : Mixing) (g : Graph) (x z t : ℕ) (a : ℕ → Bool) (b : Bool) → IsGraph g → is_edge g z x ≡ b → changed_at m g z t ≡ true →
    (if b then max_each (accumulated_row m g x t a) (ball_counter m g z t) else accumulated_row m g x t a) ≡ accumulated_row m g x t (λ w. a w || (w == z))
accumulated-step m g x z t a true ok edge changed = accumulated-more m g x z t a ok edge changed
accumulated-step m g x z t a false ok edge changed = accumulated-other m g x z t a edge
