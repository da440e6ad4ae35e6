-- Paths and balls.
use Rattle.std.proofs.Common.{◌≡◌, ℕ, zero, suc, ◌+◌, ◌<◌, ◌≤◌, Bool, true, false, ◌&&◌, ◌||◌, ◌==◌, List, [], ◌∷◌, ◌++◌, length, refl, ap, arith, if◌then◌else◌, ◌⊎◌, inl, inr, subst, sym, ◌∙◌}
use Rattle.std.specs.List.{list_any, range_with_len, filter, AllByRecursion}
use Rattle.std.proofs.lemmas.Bool.{cases_lt, and_from, and_parts, or_left, or_right, or_cases, eqb-true, eq-eqb}
use Rattle.std.specs.Cmp.{both_ways}
use Rattle.std.proofs.Common.{length-append}
use Rattle.ball_model.specs.Graph.{Graph, IsGraph, is_edge, is_path, some_list, in_ball, preds_of}

-- some number of a range passes
pub any_range : (p : ℕ → Bool) (a n k : ℕ) → a ≤ k → k < a + n → p k ≡ true → list_any p (range_with_len a n) ≡ true
any_range p a zero k low high pass = absurd (omega arith)
any_range p a (suc n) k low high pass =
    elim (cases_lt a k) [
      | inl above ↦ or_right (p a) (list_any p (range_with_len (a + 1) n)) (any_range p (a + 1) n k (omega arith) (omega arith) pass)
      | inr here ↦ let e : k ≡ a = omega arith in or_left (p a) (list_any p (range_with_len (a + 1) n)) (ap p (sym e) ∙ pass)
    ]

pub range_any : (p : ℕ → Bool) (a n : ℕ) → list_any p (range_with_len a n) ≡ true → (k : ℕ) × (a ≤ k) × (k < a + n) × (p k ≡ true)
range_any p a zero e = absurd (cc)
range_any p a (suc n) e =
    elim (or_cases (p a) (list_any p (range_with_len (a + 1) n)) e) [
      | inl here ↦ (a, omega arith, omega arith, here)
      | inr later ↦ let r = range_any p (a + 1) n later in (r.0, omega (arith, r.1), omega (arith, r.2), r.3)
    ]

-- some list passes, and the other way round
pub some_list-found : (n k : ℕ) (p : List ℕ → Bool) (l : List ℕ) → length l ≤ k → AllByRecursion (λ v. v < n) l → p l ≡ true → some_list n k p ≡ true
unfolding some_list
some_list-found n zero p [] short below pass = pass
some_list-found n (suc k) p [] short below pass = or_left (p []) _ pass
some_list-found n zero p (v ∷ rest) short below pass = absurd (omega arith)
some_list-found n (suc k) p (v ∷ rest) short below pass =
    or_right (p []) _ (any_range (λ w. some_list n k (λ l. p (w ∷ l))) 0 n v (omega arith) (omega (arith, below.0))
    (some_list-found n k (λ l. p (v ∷ l)) rest (omega arith) below.1 pass))

pub some_list-finds : (n k : ℕ) (p : List ℕ → Bool) → some_list n k p ≡ true → (l : List ℕ) × (length l ≤ k) × (p l ≡ true)
unfolding some_list
some_list-finds n zero p e = ([], omega arith, e)
some_list-finds n (suc k) p e =
    elim (or_cases (p []) (list_any (λ v. some_list n k (λ rest. p (v ∷ rest))) (range_with_len 0 n)) e) [
      | inl here ↦ ([], omega arith, here)
      | inr later ↦
          let r = range_any (λ v. some_list n k (λ rest. p (v ∷ rest))) 0 n later in
          let s = some_list-finds n k (λ rest. p (r.0 ∷ rest)) r.3 in
          (r.0 ∷ s.0, omega (arith, s.1), s.2)
    ]

-- an edge's ends are vertices
edge_below_in : (es : List (ℕ × ℕ)) (n y x : ℕ) → AllByRecursion (λ e. (e.0 < n) × (e.1 < n)) es → list_any (λ e. (e.0 == y) && (e.1 == x)) es ≡ true → (y < n) × (x < n)
edge_below_in [] n y x all e = absurd (cc)
edge_below_in (e ∷ es) n y x all found =
    elim (or_cases ((e.0 == y) && (e.1 == x)) _ found) [
      | inl here ↦
          let both = and_parts (e.0 == y) (e.1 == x) here in
          let first = eqb-true e.0 y both.0 in
          let second = eqb-true e.1 x both.1 in
          (omega (arith, first, all.0.0), omega (arith, second, all.0.1))
      | inr later ↦ edge_below_in es n y x all.1 later
    ]

pub edge_below : (g : Graph) (y x : ℕ) → IsGraph g → is_edge g y x ≡ true → (y < g.vertices) × (x < g.vertices)
edge_below g y x ok e = edge_below_in g.edges g.vertices y x ok.ends e

no_path : (g : Graph) (y x : ℕ) → is_path g y x [] ≡ true → ⊥
unfolding is_path
no_path g y x e = cc

-- the parts of a path of two vertices or more
path_parts : (g : Graph) (y x v w : ℕ) (rest : List ℕ) → is_path g y x (v ∷ w ∷ rest) ≡ true → (v ≡ y) × (is_edge g v w ≡ true) × (is_path g w x (w ∷ rest) ≡ true)
unfolding is_path
path_parts g y x v w rest e =
    let ends = and_parts (v == y) _ e in
    let more = and_parts (is_edge g v w) _ ends.1 in
    (eqb-true v y ends.0, more.0, more.1)

path_made : (g : Graph) (y x w : ℕ) (rest : List ℕ) → is_edge g y w ≡ true → is_path g w x (w ∷ rest) ≡ true → is_path g y x (y ∷ w ∷ rest) ≡ true
unfolding is_path
path_made g y x w rest edge more = and_from (y == y) _ (eq-eqb y y refl) (and_from (is_edge g y w) _ edge more)

path_one : (g : Graph) (y x v : ℕ) → is_path g y x (v ∷ []) ≡ true → (v ≡ y) × (v ≡ x)
unfolding is_path
path_one g y x v e = let both = and_parts (v == y) (v == x) e in (eqb-true v y both.0, eqb-true v x both.1)

pub path_here : (g : Graph) (x : ℕ) → is_path g x x (x ∷ []) ≡ true
unfolding is_path
path_here g x = and_from (x == x) _ (eq-eqb x x refl) (eq-eqb x x refl)

-- each vertex of a path is one of the graph
pub path_below : (g : Graph) (y x : ℕ) (p : List ℕ) → IsGraph g → x < g.vertices → is_path g y x p ≡ true → AllByRecursion (λ v. v < g.vertices) p
path_below g y x [] ok lt e = tt
path_below g y x (v ∷ []) ok lt e = (omega (arith, (path_one g y x v e).1), tt)
path_below g y x (v ∷ w ∷ rest) ok lt e =
    let parts = path_parts g y x v w rest e in
    ((edge_below g v w ok parts.1).0, path_below g w x (w ∷ rest) ok lt parts.2)

-- and so is the vertex that it leads from
pub path_from_below : (g : Graph) (y x : ℕ) (p : List ℕ) → IsGraph g → x < g.vertices → is_path g y x p ≡ true → y < g.vertices
path_from_below g y x [] ok lt e = absurd (no_path g y x e)
path_from_below g y x (v ∷ []) ok lt e = omega (arith, (path_one g y x v e).0, (path_one g y x v e).1)
path_from_below g y x (v ∷ w ∷ rest) ok lt e =
    let parts = path_parts g y x v w rest e in omega (arith, parts.0, (edge_below g v w ok parts.1).0)

-- a path grows by an edge at its end
pub path-snoc : (g : Graph) (y z x : ℕ) (p : List ℕ) → is_path g y z p ≡ true → is_edge g z x ≡ true → is_path g y x (p ++ x ∷ []) ≡ true
path-snoc g y z x [] e edge = absurd (no_path g y z e)
path-snoc g y z x (v ∷ []) e edge =
    let parts = path_one g y z v e in
    rw (parts.0) (path_made g y x x [] (rw (sym parts.0 ∙ parts.1) edge) (path_here g x))
path-snoc g y z x (v ∷ w ∷ rest) e edge =
    let parts = path_parts g y z v w rest e in
    rw (parts.0) (path_made g y x w (rest ++ x ∷ []) (rw (sym parts.0) parts.1) (path-snoc g w z x (w ∷ rest) parts.2 edge))

-- a path grows by an edge at its front
pub path-cons : (g : Graph) (y w z : ℕ) (p : List ℕ) → is_edge g y w ≡ true → is_path g w z p ≡ true → is_path g y z (y ∷ p) ≡ true
path-cons g y w z [] edge e = absurd (no_path g w z e)
path-cons g y w z (u ∷ []) edge e =
    let at : u ≡ w = (path_one g w z u e).0 in
    path_made g y z u [] (rw at edge) (subst (λ (k : ℕ). is_path g k z (u ∷ []) ≡ true) (sym at) e)
path-cons g y w z (u ∷ v ∷ rest) edge e =
    let at : u ≡ w = (path_parts g w z u v rest e).0 in
    path_made g y z u (v ∷ rest) (rw at edge) (subst (λ (k : ℕ). is_path g k z (u ∷ v ∷ rest) ≡ true) (sym at) e)

-- the last edge of a path
pub path-last : (g : Graph) (y x : ℕ) (p : List ℕ) → is_path g y x p ≡ true → (y ≡ x) ⊎ ((z : ℕ) × (q : List ℕ) × (is_edge g z x ≡ true) × (is_path g y z q ≡ true) × (length q + 1 ≤ length p))
path-last g y x [] e = absurd (no_path g y x e)
path-last g y x (v ∷ []) e = let parts = path_one g y x v e in inl (omega (arith, parts.0, parts.1))
path-last g y x (v ∷ w ∷ rest) e =
    let parts = path_parts g y x v w rest e in
    let edge : is_edge g y w ≡ true = rw (sym parts.0) parts.1 in
    elim (path-last g w x (w ∷ rest) parts.2) [
      | inl same ↦ inr (y, y ∷ [], rw (sym same) edge, path_here g y, omega arith)
      | inr more ↦ inr (more.0, y ∷ more.1, more.2, path-cons g y w more.0 more.1 edge more.3, omega (arith, more.4))
    ]

-- a ball is the existence of a path
pub in_ball-found : (g : Graph) (x t y : ℕ) (p : List ℕ) → IsGraph g → x < g.vertices → is_path g y x p ≡ true → length p ≤ t + 1 → in_ball g x t y ≡ true
unfolding in_ball
in_ball-found g x t y p ok lt e short = some_list-found g.vertices (t + 1) (λ q. is_path g y x q) p short (path_below g y x p ok lt e) e

pub in_ball-finds : (g : Graph) (x t y : ℕ) → in_ball g x t y ≡ true → (p : List ℕ) × (length p ≤ t + 1) × (is_path g y x p ≡ true)
unfolding in_ball
in_ball-finds g x t y e = some_list-finds g.vertices (t + 1) (λ q. is_path g y x q) e

-- balls grow
pub in_ball-grows : (g : Graph) (x t y : ℕ) → IsGraph g → x < g.vertices → in_ball g x t y ≡ true → in_ball g x (t + 1) y ≡ true
in_ball-grows g x t y ok lt e =
    let f = in_ball-finds g x t y e in
    in_ball-found g x (t + 1) y f.0 ok lt f.2 (omega (arith, f.1))

pub in_ball-step : (g : Graph) (x z t y : ℕ) → IsGraph g → is_edge g z x ≡ true → in_ball g z t y ≡ true → in_ball g x (t + 1) y ≡ true
in_ball-step g x z t y ok edge e =
    let f = in_ball-finds g z t y e in
    in_ball-found g x (t + 1) y (f.0 ++ x ∷ []) ok (edge_below g z x ok edge).1 (path-snoc g y z x f.0 f.2 edge) (omega (arith, f.1, length-append f.0 (x ∷ [])))

pub in_ball-back : (g : Graph) (x t y : ℕ) → IsGraph g → x < g.vertices → in_ball g x (t + 1) y ≡ true → (in_ball g x t y ≡ true) ⊎ ((z : ℕ) × (is_edge g z x ≡ true) × (in_ball g z t y ≡ true))
in_ball-back g x t y ok lt e =
    let f = in_ball-finds g x (t + 1) y e in
    elim (path-last g y x f.0 f.2) [
      | inl same ↦ inl (in_ball-found g x t y (x ∷ []) ok lt (rw same (path_here g x)) (omega arith))
      | inr last ↦ inr (last.0, last.2, in_ball-found g last.0 t y last.1 ok (edge_below g last.0 x ok last.2).0 last.3 (omega (arith, f.1, last.4)))
    ]

any_filter_one : (b : Bool) (p : ℕ → Bool) (x : ℕ) (rest : List ℕ) (r : Bool) → list_any p rest ≡ r → list_any p (if b then (x ∷ rest) else rest) ≡ ((b && p x) || r)
any_filter_one true p x rest r e = ap (λ s. p x || s) e
any_filter_one false p x rest r e = e

-- what a list that was filtered has
pub any_filter : (p q : ℕ → Bool) (xs : List ℕ) → list_any p (filter q xs) ≡ list_any (λ k. q k && p k) xs
any_filter p q [] = refl
any_filter p q (x ∷ xs) = any_filter_one (q x) p x (filter q xs) _ (any_filter p q xs)

-- the ball at t + 1 is the ball at t, and those of the predecessors
pub in_ball-suc : (g : Graph) (x t y : ℕ) → IsGraph g → x < g.vertices → in_ball g x (t + 1) y ≡ (in_ball g x t y || list_any (λ z. in_ball g z t y) (preds_of g x))
in_ball-suc g x t y ok lt = both_ways (in_ball g x (t + 1) y) _
    (λ e. elim (in_ball-back g x t y ok lt e) [
      | inl stays ↦ or_left (in_ball g x t y) _ stays
      | inr comes ↦ or_right (in_ball g x t y) _ (any_filter (λ z. in_ball g z t y) (λ z. is_edge g z x) (range_with_len 0 g.vertices)
          ∙ any_range (λ z. is_edge g z x && in_ball g z t y) 0 g.vertices comes.0 (omega arith) (omega (arith, (edge_below g comes.0 x ok comes.1).0)) (and_from _ _ comes.1 comes.2))
    ])
    (λ e. elim (or_cases (in_ball g x t y) _ e) [
      | inl stays ↦ in_ball-grows g x t y ok lt stays
      | inr comes ↦
          let found = range_any (λ z. is_edge g z x && in_ball g z t y) 0 g.vertices (sym (any_filter (λ z. in_ball g z t y) (λ z. is_edge g z x) (range_with_len 0 g.vertices)) ∙ comes) in
          let both = and_parts (is_edge g found.0 x) _ found.3 in
          in_ball-step g x found.0 t y ok both.0 both.1
    ])
