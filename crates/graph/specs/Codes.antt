-- Edges whose lists are made target by target.
use Rattle.std.specs.Prelude.{◌≡◌, ℕ, ◌-◌, List, map, reverse}
use Rattle.std.specs.List.{range_with_len}
use Rattle.graph.specs.declared.edge.Edge.{Edge}
use Rattle.graph.specs.Edges.{AllBelow, EdgesAscend, below, sources_of}

-- the sources of the edges to each target from one on and below another
abbrev pub sources_between : ℕ → List Edge → ℕ → ℕ → List (List ℕ)
sources_between n edges from to = map (sources_of n edges) (range_with_len from (to - from))

-- the edges are in reverse order, each once; their ends are vertices, and no target is below the first
pub record AreTurned (n first : ℕ) (edges : List Edge) : Type 0 where
  pub ascend : EdgesAscend (reverse edges)
  pub ends : AllBelow n (reverse edges)
  pub least : below (reverse edges) first ≡ 0
