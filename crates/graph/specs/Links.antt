-- A graph kept as a list of predecessors for each vertex.
use Rattle.std.specs.Prelude.{◌≡◌, ℕ, ◌+◌, ◌<◌, ◌≤◌, Bool, true, List, [], ◌∷◌, ◌++◌, map, length, slice_index_or}
use Rattle.std.specs.List.{filter, range_with_len}
use Rattle.ball_model.specs.Graph.{Graph}
use Rattle.ball_model.specs.PlanValue.{most_vertices}

-- ascending, from lo on and below n
unfoldable pub Ascends : ℕ → ℕ → List ℕ → Type 0
Ascends lo n [] = Unit {0}
Ascends lo n (y ∷ ys) = (lo ≤ y) × (y < n) × Ascends (y + 1) n ys

unfoldable pub AllAscend : ℕ → List (List ℕ) → Type 0
AllAscend n [] = Unit {0}
AllAscend n (ps ∷ rest) = Ascends 0 n ps × AllAscend n rest

-- the edges, where x is the vertex of the first list: ascending by target, then by source
unfoldable pub edges_from : ℕ → List (List ℕ) → List (ℕ × ℕ)
edges_from x [] = []
edges_from x (ps ∷ rest) = map (λ y. (y, x)) ps ++ edges_from (x + 1) rest

-- the vertices below n that are marked; a vertex that has no mark is counted
abbrev pub marked_vertices : ℕ → List Bool → List ℕ
marked_vertices n marks = filter (λ v. slice_index_or marks v true) (range_with_len 0 n)

abbrev pub graph_of : List (List ℕ) → List Bool → Graph
graph_of lists marks = record {
  vertices = length lists;
  edges = edges_from 0 lists;
  counted = marked_vertices (length lists) marks;
}

-- the graph with a list of predecessors for each vertex; every vertex is counted
abbrev pub graph_of_lists : List (List ℕ) → Graph
graph_of_lists lists = record {
  vertices = length lists;
  edges = edges_from 0 lists;
  counted = range_with_len 0 (length lists);
}

-- a list of predecessors for each label, and the number of counted vertices; labels may repeat
pub record AreLinks (labels lists : List (List ℕ)) (marks : List Bool) (number : ℕ) : Type 0 where
  pub as_many : length lists ≡ length labels
  pub ascend : AllAscend (length lists) lists
  pub few : length labels ≤ most_vertices
  pub counted : number ≡ length (marked_vertices (length lists) marks)
