-- What an input says, in the subject's own words: its lines, its sections, and which vertices are counted. Each is a
-- clause of a function of src/laws.rt.
use Rattle.std.specs.Prelude.{◌≡◌, ◌≢◌, ◌<◌, ◌≤◌, ◌↔◌, ◌⊎◌, ℕ, false, List, [], ◌∷◌, ◌++◌, IsTrue, Some, Ok, length, slice_index_or}
use Rattle.std.specs.List.{All, range_with_len}
use Rattle.ball_model.specs.Graph.{Graph, IsGraph, is_counted, counts_all}
use Rattle.ball_model.specs.Input.{Limits, Network, has_mark, lines, network_from, records}
use Rattle.ball_model.specs.Counting.{named_vertices, counted_network}
use Rattle.ball_model.specs.Sections.{sections_of}

-- all are counted exactly if each vertex is
abbrev pub AllAreCounted : Type 0
AllAreCounted = (g : Graph) → IsGraph g →
    IsTrue (counts_all g) ↔ ((v : ℕ) → v < g.vertices → IsTrue (is_counted g v))

-- some record is this label, and nothing else
abbrev pub IsNamed : List (List (List ℕ)) → List ℕ → Type 0
IsNamed records label =
    (i : ℕ) × (i < length records) × (slice_index_or records i [] ≡ label ∷ [])

-- by a list a vertex is counted exactly if some record is its label
abbrev pub NamedAreCounted : Type 0
NamedAreCounted = (network : Network) (records : List (List (List ℕ))) (v : ℕ) →
    v < length network.labels →
    IsTrue (is_counted (counted_network network records).graph v)
    ↔ IsNamed records (slice_index_or network.labels v [])

-- and a list of all labels counts every vertex
abbrev pub AllNamedAreAll : Type 0
AllNamedAreAll = (labels : List (List ℕ)) (records : List (List (List ℕ))) →
    ((v : ℕ) → v < length labels → IsNamed records (slice_index_or labels v [])) →
    named_vertices labels records ≡ range_with_len 0 (length labels)

-- what is read under some limits is read the same under limits that are no lower
abbrev pub LimitsOnlyRefuse : Type 0
LimitsOnlyRefuse = (a b : Limits) (records : List (List (List ℕ))) (network : Network) →
    a.vertices ≤ b.vertices → a.edges ≤ b.edges →
    network_from a records ≡ Ok network → network_from b records ≡ Ok network

-- bytes that end no line: neither LF nor CR
abbrev pub IsBare : List ℕ → Type 0
IsBare line = All (λ c. (c ≢ 10) × (c ≢ 13)) line

-- an LF ends a line
abbrev pub LfEndsLine : Type 0
LfEndsLine = (line rest : List ℕ) → IsBare line → lines (line ++ 10 ∷ rest) ≡ line ∷ lines rest

-- a CR and an LF end a line
abbrev pub CrLfEndsLine : Type 0
CrLfEndsLine = (line rest : List ℕ) → IsBare line →
    lines (line ++ 13 ∷ 10 ∷ rest) ≡ line ∷ lines rest

-- the end of the text ends the last line
abbrev pub EndEndsLine : Type 0
EndEndsLine = (line : List ℕ) → IsBare line → lines line ≡ line ∷ []

-- a byte order mark at the front of a text is read as an empty line
abbrev pub MarkIsEmptyLine : Type 0
MarkIsEmptyLine = (d : ℕ) (text : List ℕ) →
    records d (239 ∷ 187 ∷ 191 ∷ text) ≡ records d (10 ∷ text)

-- so in front of a text that has none it changes nothing
abbrev pub MarkChangesNothing : Type 0
MarkChangesNothing = (d : ℕ) (text : List ℕ) → has_mark text ≡ false →
    records d (239 ∷ 187 ∷ 191 ∷ text) ≡ records d text

-- a line begins after these bytes: at the start, or after an LF
abbrev pub LineBegins : List ℕ → Type 0
LineBegins before = (before ≡ []) ⊎ ((start : List ℕ) × (before ≡ start ++ 10 ∷ []))

-- a line ends here, and these bytes follow it: an LF, a CR and an LF, or the end
abbrev pub LineEnds : List ℕ → List ℕ → Type 0
LineEnds rest after =
    (rest ≡ 10 ∷ after) ⊎ ((rest ≡ 13 ∷ 10 ∷ after) ⊎ ((rest ≡ []) × (after ≡ [])))

-- a line of exactly %% is between these
pub record HasMark (input before after : List ℕ) : Type 0 where
  pub begins : LineBegins before
  pub rest : List ℕ
  pub whole : input ≡ before ++ 37 ∷ 37 ∷ rest
  pub ends : LineEnds rest after

-- the sections are the input, with a line of exactly %% between them
abbrev pub MarkDivides : Type 0
MarkDivides = (input : List ℕ) (sections : List ℕ × List ℕ) →
    sections_of input ≡ Some sections → HasMark input sections.0 sections.1

-- if there is such a line there are sections, and the first of them ends no later than there
abbrev pub FirstMarkDivides : Type 0
FirstMarkDivides = (input before after : List ℕ) → HasMark input before after →
    (sections : List ℕ × List ℕ) × (sections_of input ≡ Some sections)
    × (length sections.0 ≤ length before)
