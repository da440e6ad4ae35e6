-- Records that were cut into their fields.
use Rattle.std.specs.Prelude.{◌≡◌, ℕ, ◌<◌, ◌≤◌, List, [], ◌++◌, Option, Some, None, length, nat_lt, slice_range, if◌then◌else◌}
use Rattle.edgelist.specs.Guessing.{IsKey}
use Rattle.edgelist.specs.Reading.{fields_with}
use Rattle.edgelist.specs.declared.cut.CutRecord.{CutRecord}

-- the second field of a record among the bytes of all, if it has one
abbrev pub second_of : List ℕ → CutRecord → Option (List ℕ)
second_of bytes r = if nat_lt r.middle r.end then Some (slice_range bytes r.middle r.end) else None

-- the fields of a record among the bytes of all
abbrev pub cut_fields : List ℕ → CutRecord → List (List ℕ)
cut_fields bytes r = fields_with (slice_range bytes r.start r.middle) (second_of bytes r)

-- a record is among the bytes: its first field is not empty, and its keys are those of its fields
pub record IsCut (bytes : List ℕ) (r : CutRecord) : Type 0 where
  pub first : r.start < r.middle
  pub second : r.middle ≤ r.end
  pub within : r.end ≤ length bytes
  pub source : IsKey (slice_range bytes r.start r.middle) r.source
  pub target : r.middle < r.end → IsKey (slice_range bytes r.middle r.end) r.target

-- bytes were put after others, or none were
pub record Extends (old new : List ℕ) : Type 0 where
  pub more : List ℕ
  pub is : new ≡ old ++ more

-- the bytes of a field, if it is there
abbrev pub field_or_none : Option (List ℕ) → List ℕ
field_or_none None = []
field_or_none (Some field) = field
