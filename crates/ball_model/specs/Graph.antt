-- Directed graphs, their paths, and the balls of HyperBall (2013), over incoming paths.
use Rattle.std.specs.Prelude.{◌≡◌, ℕ, zero, suc, ◌+◌, ◌-◌, ◌<◌, Bool, false, not, ◌&&◌, ◌||◌, ◌==◌, List, [], ◌∷◌, map, length}
use Rattle.std.specs.List.{list_any, range_with_len, filter, flat_map, AllByRecursion}

-- a number of vertices, the edges (y, x), each from y to x, and the vertices that are counted
pub record Graph : Type 0 where
  pub vertices : ℕ
  pub edges : List (ℕ × ℕ)
  pub counted : List ℕ

-- there is an edge from y to x
abbrev pub is_edge : Graph → ℕ → ℕ → Bool
is_edge g y x = list_any (λ e. (e.0 == y) && (e.1 == x)) g.edges

-- the predecessors of x: the vertices with an edge to x, ascending
abbrev pub preds_of : Graph → ℕ → List ℕ
preds_of g x = filter (λ y. is_edge g y x) (range_with_len 0 g.vertices)

-- the edges between vertices, each once, ascending by target and then by source
unfoldable pub listed_edges : Graph → List (ℕ × ℕ)
listed_edges g = flat_map (λ x. map (λ y. (y, x)) (preds_of g x)) (range_with_len 0 g.vertices)

-- v is a counted vertex: balls count it
abbrev pub is_counted : Graph → ℕ → Bool
is_counted g v = list_any (λ k. k == v) g.counted

-- the counted vertices, each once, ascending
unfoldable pub counted_vertices : Graph → List ℕ
counted_vertices g = filter (λ v. is_counted g v) (range_with_len 0 g.vertices)

-- every vertex is counted
abbrev pub counts_all : Graph → Bool
counts_all g = length g.counted == g.vertices

-- the ends of each edge are vertices, each edge is there once, ascending by target and then by source, and so is each
-- counted vertex, ascending
pub record IsGraph (g : Graph) : Type 0 where
  pub ends : AllByRecursion (λ e. (e.0 < g.vertices) × (e.1 < g.vertices)) g.edges
  pub listed : g.edges ≡ listed_edges g
  pub counted : g.counted ≡ counted_vertices g

-- the list is a path from y to x: its first vertex is y, its last is x, and each neighbouring pair is an edge
unfoldable pub is_path : Graph → ℕ → ℕ → List ℕ → Bool
is_path g y x [] = false
is_path g y x (v ∷ []) = (v == y) && (v == x)
is_path g y x (v ∷ w ∷ rest) = (v == y) && (is_edge g v w && is_path g w x (w ∷ rest))

-- some list of at most k numbers below n passes the test
unfoldable pub some_list : ℕ → ℕ → (List ℕ → Bool) → Bool
some_list n zero p = p []
some_list n (suc k) p =
    p [] || list_any (λ v. some_list n k (λ rest. p (v ∷ rest))) (range_with_len 0 n)

-- y is in the ball of x at t: there is a path from y to x of at most t edges
unfoldable pub in_ball : Graph → ℕ → ℕ → ℕ → Bool
in_ball g x t y = some_list g.vertices (t + 1) (λ path. is_path g y x path)

-- y is in the ball of x one superstep before t, and the ball before superstep 0 is empty
unfoldable pub in_ball_before : Graph → ℕ → ℕ → ℕ → Bool
in_ball_before g x t y = not (t == 0) && in_ball g x (t - 1) y
