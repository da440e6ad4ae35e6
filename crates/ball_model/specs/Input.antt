-- What an edge list says: the graph and the labels that its records name, or its first refusal.
use Rattle.std.specs.Prelude.{◌≡◌, ⊤, ℕ, ◌+◌, ◌-◌, Bool, true, false, List, [], ◌∷◌, ◌==◌, ◌&&◌, ◌^◌, not, if◌then◌else◌, map, length, take, drop, min, nat_lt, nat_le, Option, None, Some, Result, Ok, Err, slice_index_or}
use Rattle.std.specs.List.{list_any, range_with_len, filter, flat_map}
use Rattle.std.specs.Str.{bytes_eq}
use Rattle.ball_model.specs.Graph.{Graph}
use Rattle.ball_model.specs.PlanValue.{most_vertices, usual_vertices}

-- a byte order mark at the front: the bytes ef bb bf
abbrev pub has_mark : List ℕ → Bool
has_mark [] = false
has_mark (a ∷ []) = false
has_mark (a ∷ b ∷ []) = false
has_mark (a ∷ b ∷ c ∷ rest) = (a == 239) && (b == 187) && (c == 191)

-- a text without the byte order mark at its front, if it has one
abbrev pub without_mark : List ℕ → List ℕ
without_mark text = if has_mark text then drop 3 text else text

abbrev pub StartsWithLf : List ℕ → Type 0
StartsWithLf [] = ⊥
StartsWithLf (c ∷ rest) = c ≡ 10

-- each CR has an LF after it
abbrev pub HasLfs : List ℕ → Type 0
HasLfs [] = ⊤
HasLfs (c ∷ rest) = (c ≡ 13 → StartsWithLf rest) × HasLfs rest

-- plain bytes: each CR has an LF after it
pub record IsPlain (text : List ℕ) : Type 0 where
  pub ends : HasLfs text

-- a byte at the front of the first of some pieces
abbrev pub with_first_byte : ℕ → List (List ℕ) → List (List ℕ)
with_first_byte c [] = (c ∷ []) ∷ []
with_first_byte c (p ∷ ps) = (c ∷ p) ∷ ps

-- the lines of a plain text: each LF ends one, and a CR is part of a line's end
unfoldable pub lines : List ℕ → List (List ℕ)
lines [] = [] ∷ []
lines (c ∷ rest) =
    if c == 10 then [] ∷ lines rest
    else if c == 13 then lines rest
    else with_first_byte c (lines rest)

-- the fields of a line, with this byte between them
unfoldable pub fields : ℕ → List ℕ → List (List ℕ)
fields d [] = [] ∷ []
fields d (c ∷ rest) = if c == d then [] ∷ fields d rest else with_first_byte c (fields d rest)

-- a line is a record if it is not empty and its first byte is not #
abbrev pub is_record : List ℕ → Bool
is_record [] = false
is_record (c ∷ rest) = not (35 == c)

-- the records of a text: after a byte order mark, the fields of each line that is neither empty nor a comment
abbrev pub records : ℕ → List ℕ → List (List (List ℕ))
records d text = map (fields d) (filter is_record (lines (without_mark text)))

abbrev pub is_filled : List ℕ → Bool
is_filled [] = false
is_filled (c ∷ rest) = true

-- a record has one or two fields, none of them empty
abbrev pub has_form : List (List ℕ) → Bool
has_form [] = false
has_form (a ∷ []) = is_filled a
has_form (a ∷ b ∷ []) = is_filled a && is_filled b
has_form (a ∷ b ∷ c ∷ more) = false

-- each once, in the order of first appearance
unfoldable pub distinct : List (List ℕ) → List (List ℕ)
distinct [] = []
distinct (x ∷ xs) = x ∷ filter (λ y. not (bytes_eq x y)) (distinct xs)

-- the labels of some records, numbered by first appearance
unfoldable pub labels_of : List (List (List ℕ)) → List (List ℕ)
labels_of records = distinct (flat_map (λ r. r) records)

-- a record leads from the first label to the second
abbrev pub leads : List ℕ → List ℕ → List (List ℕ) → Bool
leads from to [] = false
leads from to (a ∷ []) = false
leads from to (a ∷ b ∷ more) = bytes_eq a from && bytes_eq b to

-- a graph and the labels of its vertices
pub record Network : Type 0 where
  pub graph : Graph
  pub labels : List (List ℕ)

-- the network of some records: an edge from y to x if some record leads from the label of y to that of x, ascending by
-- target and then by source, and every vertex is counted
unfoldable pub network_of : List (List (List ℕ)) → Network
network_of records =
    let labels = labels_of records in
    let n = length labels in
    record {
      graph = record {
        vertices = n;
        edges = flat_map
            (λ x. map
            (λ y. (y, x))
            (filter
            (λ y. list_any
            (leads (slice_index_or labels y []) (slice_index_or labels x [])) records)
            (range_with_len 0 n)))
            (range_with_len 0 n);
        counted = range_with_len 0 n;
      };
      labels = labels;
    }

-- the most vertices and records that are read
pub record Limits : Type 0 where
  pub vertices : ℕ
  pub edges : ℕ

-- no more records than that are read, whatever the limits
abbrev pub most_records : ℕ
most_records = 2 ^ 32 - 1

-- no more records than that are read by the usual calls
abbrev pub usual_records : ℕ
usual_records = 2 ^ 26

-- the lower of some limits, one by one
abbrev pub lower_of : Limits → Limits → Limits
lower_of a b = record { vertices = min a.vertices b.vertices; edges = min a.edges b.edges }

-- the limits of the usual calls, and those of the calls that read large inputs
abbrev pub usual_limits : Limits
usual_limits = record { vertices = usual_vertices; edges = usual_records }

abbrev pub most_limits : Limits
most_limits = record { vertices = most_vertices; edges = most_records }

-- the limits in force are never above the usual ones
abbrev pub in_force : Limits → Limits
in_force limits = lower_of limits usual_limits

-- if a large input is read, they are never above those of all inputs
abbrev pub in_force_large : Limits → Limits
in_force_large limits = lower_of limits most_limits

-- why an edge list is refused; records are numbered from 1
pub data Refusal : Type 0 where
  TooManyEdges : Refusal
  Fields : ℕ → Refusal
  TooManyVertices : Refusal

-- the first check that fails at record i, from 0 on
abbrev pub fault_at : Limits → List (List (List ℕ)) → ℕ → Option Refusal
fault_at limits records i =
    if nat_le limits.edges i then Some TooManyEdges
    else if not (has_form (slice_index_or records i [])) then Some (Fields (i + 1))
    else if nat_lt limits.vertices (length (labels_of (take (i + 1) records)))
    then Some TooManyVertices
    else None

abbrev pub first_of : {X : Type 0} → List (Option X) → Option X
first_of [] = None
first_of (None ∷ more) = first_of more
first_of (Some x ∷ more) = Some x

abbrev pub network_unless : Option Refusal → List (List (List ℕ)) → Result Network Refusal
network_unless None records = Ok (network_of records)
network_unless (Some refusal) records = Err refusal

-- records are refused for the first record at which a check fails, or give their network
unfoldable pub network_from : Limits → List (List (List ℕ)) → Result Network Refusal
network_from limits records =
    network_unless
    (first_of (map (fault_at limits records) (range_with_len 0 (length records))))
    records

-- what a plain text says, with this byte between fields, under the limits in force
abbrev pub input_of : ℕ → Limits → List ℕ → Result Network Refusal
input_of d limits text = network_from (in_force limits) (records d text)

-- what it says if a large input is read
abbrev pub large_input_of : ℕ → Limits → List ℕ → Result Network Refusal
large_input_of d limits text = network_from (in_force_large limits) (records d text)
