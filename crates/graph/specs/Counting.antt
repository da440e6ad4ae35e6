-- What is made of a list of counted vertices.
use Rattle.std.specs.Prelude.{◌≡◌, ⊤, ℕ, ◌+◌, ◌<◌, Bool, true, not, ◌||◌, List, [], ◌∷◌, ◌++◌, if◌then◌else◌, length, slice_index_or, Option, None, Some, Result, Ok, Err}
use Rattle.std.specs.List.{list_any}
use Rattle.std.specs.Str.{bytes_eq}
use Rattle.ball_model.specs.Input.{Network}
use Rattle.ball_model.specs.Counting.{CountedRefusal, NotOne, Unknown, is_name, names, counted_network_from}
use Rattle.ball_model.specs.RunText.{Settings, counted_in, network_in}
use Rattle.graph.specs.Links.{marked_vertices}
use Rattle.graph.specs.declared.counting.CountedError.{CountedError}
use Rattle.graph.specs.declared.counting.CountedError.TheVariants as refused

-- the error is what a list says; want of memory says nothing of it
abbrev pub RefusesList : Result Network CountedRefusal → CountedError → Type 0
RefusesList says (refused.Fields number) = says ≡ Err (NotOne number)
RefusesList says (refused.Unknown number) = says ≡ Err (Unknown number)
RefusesList says refused.Memory = ⊤

-- the edge list says a network, and this error is what the list of counted vertices says of it
pub record IsListRefusal
    (s : Settings) (input : List ℕ) (list : Option (List ℕ)) (e : CountedError) : Type 0 where
  pub all : Network
  pub read : network_in s input ≡ Ok all
  pub refused : RefusesList (counted_in s all list) e

-- this error is what one record of the list says; a record takes no memory
abbrev pub ListFaultIs : Option CountedRefusal → CountedError → Type 0
ListFaultIs fault (refused.Fields number) = fault ≡ Some (NotOne number)
ListFaultIs fault (refused.Unknown number) = fault ≡ Some (Unknown number)
ListFaultIs fault refused.Memory = ⊥

-- the first check that fails at a record that follows i others
abbrev pub record_fault : List (List ℕ) → List (List ℕ) → ℕ → Option CountedRefusal
record_fault labels record_ i =
    if not (is_name record_) then Some (NotOne (i + 1))
    else if not (list_any (λ label. names label record_) labels) then Some (Unknown (i + 1))
    else None

-- the mark of each label says whether some of these records names it
pub record MarksAre (labels : List (List ℕ)) (records : List (List (List ℕ)))
    (marks : List Bool) : Type 0 where
  pub count : length marks ≡ length labels
  pub each : (v : ℕ) → v < length labels →
      slice_index_or marks v true ≡ list_any (names (slice_index_or labels v [])) records

-- equal labels have equal marks
pub record AreAlike (labels : List (List ℕ)) (marks : List Bool) : Type 0 where
  pub count : length marks ≡ length labels
  pub each : (v w : ℕ) → v < length labels → w < length labels →
      slice_index_or labels v [] ≡ slice_index_or labels w [] →
      slice_index_or marks v true ≡ slice_index_or marks w true

-- the vertices with this label were marked, and no others
pub record MarksLabel (labels : List (List ℕ)) (label : List ℕ) (old new : List Bool)
    : Type 0 where
  pub count : length new ≡ length labels
  pub each : (v : ℕ) → v < length labels →
      slice_index_or new v true
      ≡ (bytes_eq label (slice_index_or labels v []) || slice_index_or old v true)

-- the marks of any records before become those with a record of these fields after them
abbrev pub MarksOne : List (List ℕ) → List (List ℕ) → List Bool → List Bool → Type 0
MarksOne labels fields old new = (past : List (List (List ℕ))) → MarksAre labels past old →
    MarksAre labels (past ++ fields ∷ []) new

-- a network in which the marked vertices are counted
abbrev pub with_marks : Network → List Bool → Network
with_marks network marks = record network {
  graph = record network.graph { counted = marked_vertices (length network.labels) marks };
}

-- of every network with these labels the records say that the marked vertices are counted
abbrev pub SaysMarks : List (List ℕ) → List (List (List ℕ)) → List Bool → Type 0
SaysMarks labels records marks = (network : Network) → network.labels ≡ labels →
    counted_network_from network records ≡ Ok (with_marks network marks)

-- of every network with these labels the records say this error
abbrev pub SaysRefusal : List (List ℕ) → List (List (List ℕ)) → CountedError → Type 0
SaysRefusal labels records error =
    (network : Network) → network.labels ≡ labels →
    RefusesList (counted_network_from network records) error
