-- What a list of vertices says that alone are counted: the network with these, or the list's first refusal.
use Rattle.std.specs.Prelude.{ℕ, ◌+◌, Bool, false, not, List, [], ◌∷◌, if◌then◌else◌, map, length, Option, None, Some, Result, Ok, Err, slice_index_or}
use Rattle.std.specs.List.{list_any, range_with_len, filter}
use Rattle.std.specs.Str.{bytes_eq}
use Rattle.ball_model.specs.Input.{Network, is_filled, records, first_of}

-- a record is one field that is not empty
abbrev pub is_name : List (List ℕ) → Bool
is_name [] = false
is_name (a ∷ []) = is_filled a
is_name (a ∷ b ∷ more) = false

-- a record names this label
abbrev pub names : List ℕ → List (List ℕ) → Bool
names label [] = false
names label (a ∷ []) = bytes_eq a label
names label (a ∷ b ∷ more) = false

-- why a list is refused: a record is not one identifier, or it names no vertex; records are numbered from 1
pub data CountedRefusal : Type 0 where
  NotOne : ℕ → CountedRefusal
  Unknown : ℕ → CountedRefusal

-- the first check that fails at record i of a list, from 0 on
abbrev pub list_fault_at : List (List ℕ) → List (List (List ℕ)) → ℕ → Option CountedRefusal
list_fault_at labels records i =
    if not (is_name (slice_index_or records i [])) then Some (NotOne (i + 1))
    else if not (list_any (λ label. names label (slice_index_or records i [])) labels)
    then Some (Unknown (i + 1))
    else None

-- the vertices that some record names, ascending
unfoldable pub named_vertices : List (List ℕ) → List (List (List ℕ)) → List ℕ
named_vertices labels records =
    filter (λ v. list_any (names (slice_index_or labels v [])) records)
    (range_with_len 0 (length labels))

-- the network in which just the vertices that some record names are counted
abbrev pub counted_network : Network → List (List (List ℕ)) → Network
counted_network network records = record network {
  graph = record network.graph { counted = named_vertices network.labels records };
}

abbrev pub counted_network_unless : Option CountedRefusal → Network → List (List (List ℕ)) →
    Result Network CountedRefusal
counted_network_unless None network records = Ok (counted_network network records)
counted_network_unless (Some refusal) network records = Err refusal

-- records are refused for the first one at which a check fails, or say which vertices are counted
unfoldable pub counted_network_from : Network → List (List (List ℕ)) → Result Network CountedRefusal
counted_network_from network records =
    counted_network_unless
    (first_of (map (list_fault_at network.labels records) (range_with_len 0 (length records))))
    network records

-- what a plain list says of a network, with this byte between fields
abbrev pub counted_of : ℕ → Network → List ℕ → Result Network CountedRefusal
counted_of d network list = counted_network_from network (records d list)
