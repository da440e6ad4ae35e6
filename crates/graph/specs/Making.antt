-- Labels and edges that become a graph.
use Rattle.std.specs.Prelude.{◌≡◌, ℕ, ◌^◌, ◌<◌, ◌≤◌, ◌⊎◌, false, List, [], ◌∷◌, ◌++◌, length, slice_index_or}
use Rattle.graph.specs.Edges.{AllBelow, edge_of}
use Rattle.graph.specs.declared.edge.Edge.{Edge}
use Rattle.graph.specs.Labels.{has_label, with_label}

-- an edge was added: to the place of the second among all labels, from that of the first
pub record AddsEdge (source target : List ℕ) (labels : List (List ℕ)) (edges : List Edge)
    (labels' : List (List ℕ)) (edges' : List Edge) : Type 0 where
  pub from : ℕ
  pub to : ℕ
  pub labels_are : labels' ≡ with_label (with_label labels source) target
  pub from_within : from < length (with_label labels source)
  pub from_is : slice_index_or (with_label labels source) from [] ≡ source
  pub to_within : to < length labels'
  pub to_is : slice_index_or labels' to [] ≡ target
  pub edges_are : edges' ≡ edges ++ edge_of to from ∷ []

-- a label is new, and there are as many vertices as a graph may have
pub record HasNoPlace (labels : List (List ℕ)) (label : List ℕ) : Type 0 where
  pub new : has_label labels label ≡ false
  pub full : 2 ^ 31 ≤ length labels

-- one of an edge's ends has no place
abbrev pub LacksPlaces : List (List ℕ) → List ℕ → List ℕ → Type 0
LacksPlaces labels source target =
    HasNoPlace labels source ⊎ HasNoPlace (with_label labels source) target

-- the labels and edges so far
pub record Built : Type 0 where
  pub labels : List (List ℕ)
  pub edges : List Edge

-- they can become a graph
pub record CanBeBuilt (labels : List (List ℕ)) (edges : List Edge) : Type 0 where
  pub vertices : length labels ≤ 2 ^ 31
  pub fit : length edges < 2 ^ 32
  pub ends : AllBelow (length labels) edges
