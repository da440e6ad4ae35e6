-- What is made of the records that were read so far.
use Rattle.std.specs.Prelude.{◌≡◌, ⊤, ℕ, ◌+◌, ◌-◌, ◌^◌, ◌<◌, ◌≤◌, Bool, true, false, List, [], ◌∷◌, ◌++◌, map, length, slice_index_or, if◌then◌else◌, Option, None, Some, Result, Ok, Err, IfErr, OnOk}
use Rattle.ball_model.specs.Input.{Network, Limits, Refusal, TooManyEdges, Fields, TooManyVertices, fault_at, labels_of, records, network_from, input_of, large_input_of}
use Rattle.csv.specs.declared.reader.Reader.{Reader}
use Rattle.graph.specs.Records.{IsLeft, byte_of}
use Rattle.edgelist.specs.Records.{StopsAtEnd}
use Rattle.graph.specs.Edges.{AllBelow, graph_of_edges}
use Rattle.graph.specs.declared.edge.Edge.{Edge}
use Rattle.edgelist.specs.declared.limits.EdgeError.{EdgeError}
use Rattle.edgelist.specs.declared.limits.EdgeError.TheVariants as refused
use Rattle.edgelist.specs.declared.limits.EdgeLimits.{EdgeLimits}
use Rattle.graph.specs.declared.delimiter.Delimiter.{Delimiter}

abbrev pub limits_of : EdgeLimits → Limits
limits_of limits = record { vertices = limits.vertices; edges = limits.edges }

-- what a text says under limits that are in force
abbrev pub meaning_under : Limits → Delimiter → List ℕ → Result Network Refusal
meaning_under limits delimiter text = network_from limits (records (byte_of delimiter) text)

-- what a text says under these limits
abbrev pub meaning_within : EdgeLimits → Delimiter → List ℕ → Result Network Refusal
meaning_within limits delimiter text =
    network_from (limits_of limits) (records (byte_of delimiter) text)

-- what a text says under the limits in force
abbrev pub meaning_of : EdgeLimits → Delimiter → List ℕ → Result Network Refusal
meaning_of limits delimiter text = input_of (byte_of delimiter) (limits_of limits) text

-- what a large text says under the limits in force
abbrev pub large_meaning_of : EdgeLimits → Delimiter → List ℕ → Result Network Refusal
large_meaning_of limits delimiter text =
    large_input_of (byte_of delimiter) (limits_of limits) text

-- a count of failed calls rose from a number below the greatest that can be answered
abbrev pub CountsOne : ℕ → ℕ → Type 0
CountsOne old new = (old < 2 ^ 64 - 1) × (old < new)

-- the error is what an edge list says; a failed read and want of memory say nothing of it
abbrev pub Refuses : Result Network Refusal → EdgeError → Type 0
Refuses says refused.Read = ⊤
Refuses says refused.TooManyEdges = says ≡ Err TooManyEdges
Refuses says (refused.Fields number) = says ≡ Err (Fields number)
Refuses says refused.TooManyVertices = says ≡ Err TooManyVertices
Refuses says refused.Memory = ⊤

-- what an error of `csv` is answered as: one of the reader underneath as a failed read, all others as want of memory
abbrev pub edge_error : Bool → EdgeError
edge_error true = refused.Read
edge_error false = refused.Memory

-- the error is of a record, and none of reading or of memory
abbrev pub IsRefusal : EdgeError → Type 0
IsRefusal refused.Read = ⊥
IsRefusal refused.TooManyEdges = ⊤
IsRefusal (refused.Fields number) = ⊤
IsRefusal refused.TooManyVertices = ⊤
IsRefusal refused.Memory = ⊥

-- the error is what one record says; want of memory says nothing of it
abbrev pub FaultIs : Option Refusal → EdgeError → Type 0
FaultIs fault refused.Read = ⊥
FaultIs fault refused.TooManyEdges = fault ≡ Some TooManyEdges
FaultIs fault (refused.Fields number) = fault ≡ Some (Fields number)
FaultIs fault refused.TooManyVertices = fault ≡ Some TooManyVertices
FaultIs fault refused.Memory = ⊤

-- the fields of a record, of which there may be a second
abbrev pub fields_with : List ℕ → Option (List ℕ) → List (List ℕ)
fields_with source None = source ∷ []
fields_with source (Some target) = source ∷ target ∷ []

-- what a record of two fields says: it leads to the one label from the other
pub record Link : Type 0 where
  pub target : List ℕ
  pub source : List ℕ

-- the link that a record says, if it says one
abbrev pub link_in : List (List ℕ) → List Link
link_in [] = []
link_in (a ∷ []) = []
link_in (a ∷ b ∷ more) = record { target = b; source = a } ∷ []

unfoldable pub links_in : List (List (List ℕ)) → List Link
links_in [] = []
links_in (r ∷ rs) = link_in r ++ links_in rs

-- an edge by the labels of its ends
abbrev pub link_of : List (List ℕ) → Edge → Link
link_of labels e = record {
  target = slice_index_or labels e.target [];
  source = slice_index_or labels e.source [];
}

-- the labels and the edges that these records name
pub record IsReadAs (records : List (List (List ℕ))) (labels : List (List ℕ))
    (edges : List Edge) : Type 0 where
  pub labels_are : labels ≡ labels_of records
  pub below : AllBelow (length labels) edges
  pub edges_are : map (link_of labels) edges ≡ links_in records

-- no more labels and edges than these numbers, and each edge of two of the labels
pub record AreWithin (vertices number : ℕ) (labels : List (List ℕ))
    (edges : List Edge) : Type 0 where
  pub below : AllBelow (length labels) edges
  pub few_labels : length labels ≤ vertices
  pub few_edges : length edges ≤ number

-- there are more labels than the limit, or memory was refused
abbrev pub Exceeds : ℕ → List (List ℕ) → EdgeError → Type 0
Exceeds vertices labels refused.Read = ⊥
Exceeds vertices labels refused.TooManyEdges = ⊥
Exceeds vertices labels (refused.Fields number) = ⊥
Exceeds vertices labels refused.TooManyVertices = vertices < length labels
Exceeds vertices labels refused.Memory = ⊤

-- the network of these labels and edges, in which every vertex is counted
abbrev pub network_by : List (List ℕ) → List Edge → Network
network_by labels edges = record { graph = graph_of_edges (length labels) edges; labels = labels }

-- these records say the network of these labels and edges
abbrev pub IsReadBy : EdgeLimits → List (List (List ℕ)) → List (List ℕ) → List Edge → Type 0
IsReadBy limits rs labels edges = network_from (limits_of limits) rs ≡ Ok (network_by labels edges)

-- no check fails at any of these records
pub record IsClean (limits : Limits) (records : List (List (List ℕ))) : Type 0 where
  pub none : (i : ℕ) → i < length records → fault_at limits records i ≡ None

-- one more record with these fields made these of those
pub record AddsRecord (limits : Limits) (number : ℕ) (fields : List (List ℕ))
    (labels : List (List ℕ)) (edges : List Edge) (labels' : List (List ℕ)) (edges' : List Edge) :
    Type 0 where
  pub reads : (records : List (List (List ℕ))) → IsReadAs records labels edges →
      IsReadAs (records ++ fields ∷ []) labels' edges'
  pub passes : (records : List (List (List ℕ))) → length records ≡ number →
      IsReadAs records labels edges → fault_at limits (records ++ fields ∷ []) number ≡ None
  pub within : AreWithin limits.vertices number labels edges →
      AreWithin limits.vertices (number + 1) labels' edges'

-- the error is the check that fails at this record
pub record Stops (limits : Limits) (number : ℕ) (fields : List (List ℕ)) (labels : List (List ℕ))
    (edges : List Edge) (error : EdgeError) : Type 0 where
  pub at : (records more : List (List (List ℕ))) → length records ≡ number →
      IsReadAs records labels edges →
      FaultIs (fault_at limits (records ++ fields ∷ more) number) error

-- the records that were read of a text end with that at which the first check fails
pub record EndsAt {R : Type 0} (remaining : R → Option (List ℕ)) (d : ℕ) (text : List ℕ)
    (limits : Limits) (reader : Reader R) (error : EdgeError) : Type 0 where
  pub before : List (List (List ℕ))
  pub last : List (List ℕ)
  pub at : IsLeft remaining d text (before ++ last ∷ []) reader
  pub clean : IsClean limits before
  pub fault : FaultIs (fault_at limits (before ++ last ∷ []) (length before)) error

-- if a record was refused, none was read after it
abbrev pub EndsAtFault : {R T : Type 0} → (R → Option (List ℕ)) → Reader R → Reader R → Limits →
    Result T EdgeError → Type 0
EndsAtFault remaining old new limits result = (d : ℕ) (text : List ℕ) → IsLeft remaining d text [] old →
    IfErr result (λ error. IsRefusal error → EndsAt remaining d text limits new error)

-- if all records were read, the reader is as a read leaves it that found no record more
abbrev pub EndsAtEnd : {R T : Type 0} → (R → Option (List ℕ)) → Reader R → Reader R →
    Result T EdgeError → Type 0
EndsAtEnd remaining old new result = (d : ℕ) (text : List ℕ) → IsLeft remaining d text [] old →
    OnOk result (StopsAtEnd remaining d text new)
