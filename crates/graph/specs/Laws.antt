-- What an edge list's network means, in the subject's own words. Each is the contract of a function of src/laws.rt.
use Rattle.std.specs.Prelude.{◌≡◌, ℕ, ◌<◌, Bool, List, [], ◌∷◌, ◌++◌, length, slice_index_or}
use Rattle.std.specs.List.{list_any, flat_map, position_or_len}
use Rattle.std.specs.Str.{bytes_eq}
use Rattle.ball_model.specs.Graph.{IsGraph, is_edge}
use Rattle.ball_model.specs.Input.{labels_of, leads, network_of}

-- the label of vertex v
abbrev pub label_at : List (List (List ℕ)) → ℕ → List ℕ
label_at records v = slice_index_or (labels_of records) v []

-- where a label first appears among the fields of all records
abbrev pub first_place : List (List (List ℕ)) → List ℕ → ℕ
first_place records label = position_or_len (bytes_eq label) (flat_map (λ r. r) records)

-- no two vertices have one label
abbrev pub LabelsAreDistinct : Type 0
LabelsAreDistinct = (records : List (List (List ℕ))) (v w : ℕ) → v < length (labels_of records) →
    w < length (labels_of records) →
    label_at records v ≡ label_at records w → v ≡ w

-- vertices are numbered by the first appearance of their labels
abbrev pub LabelsAreInOrder : Type 0
LabelsAreInOrder =
    (records : List (List (List ℕ))) (v w : ℕ) → v < w → w < length (labels_of records) →
    first_place records (label_at records v) < first_place records (label_at records w)

-- the labels are the fields of the records
abbrev pub LabelsAreFields : Type 0
LabelsAreFields = (records : List (List (List ℕ))) (label : List ℕ) →
    list_any (bytes_eq label) (labels_of records)
    ≡ list_any (bytes_eq label) (flat_map (λ r. r) records)

-- there is an edge from y to x exactly if some record leads from the label of y to that of x
abbrev pub EdgesAreNamed : Type 0
EdgesAreNamed = (records : List (List (List ℕ))) (y x : ℕ) → y < length (labels_of records) →
    x < length (labels_of records) →
    is_edge (network_of records).graph y x
    ≡ list_any (leads (label_at records y) (label_at records x)) records

-- the ends of each edge are vertices, and each edge is there once
abbrev pub EdgesStandOnce : Type 0
EdgesStandOnce = (records : List (List (List ℕ))) → IsGraph (network_of records).graph

-- the vertex with this label; if no vertex has it, a number that is no vertex
abbrev pub vertex_at : List (List (List ℕ)) → List ℕ → ℕ
vertex_at records label = position_or_len (bytes_eq label) (labels_of records)

-- whether there is an edge from the vertex with the one label to that with the other
abbrev pub joins : List (List (List ℕ)) → List ℕ → List ℕ → Bool
joins records from to =
    is_edge (network_of records).graph (vertex_at records from) (vertex_at records to)

-- an input with a record of one field has just the edges that it has without it
abbrev pub DeclaringAddsNoEdge : Type 0
DeclaringAddsNoEdge = (records more : List (List (List ℕ))) (label from to : List ℕ) →
    joins (records ++ (label ∷ []) ∷ more) from to ≡ joins (records ++ more) from to
