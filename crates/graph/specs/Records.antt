-- How the records of a text are read.
use Rattle.std.specs.Prelude.{◌≡◌, ℕ, Bool, true, false, not, List, [], ◌∷◌, ◌++◌, if◌then◌else◌, Option, None, Some}
use Rattle.std.specs.List.{filter}
use Rattle.csv.specs.Machine.{ends_at_end, field_after, fields_after, is_end, step}
use Rattle.csv.specs.Reading.{ReadRecord, Ready, is_flexible, source_of}
use Rattle.csv.specs.declared.parser.Config.{Config}
use Rattle.csv.specs.declared.parser.State.{State}
use Rattle.csv.specs.declared.parser.Terminator.TheVariants as term
use Rattle.csv.specs.declared.reader.Reader.{Reader}
use Rattle.csv.specs.declared.reader.Trim.TheVariants as trim
use Rattle.ball_model.specs.Input.{IsPlain, records}
use Rattle.graph.specs.declared.delimiter.Delimiter.{Delimiter}
use Rattle.graph.specs.declared.delimiter.Delimiter.TheVariants as delimiter

-- how the reader is set up, with this byte between fields
abbrev pub config : ℕ → Config
config d =
    record {
      delimiter = d;
      quote = 34;
      escape = None;
      double_quote = true;
      quoting = false;
      comment = Some 35;
      terminator = term.CRLF;
    }

-- every row that the reader gives, from a state, some fields and the bytes of a field
unfoldable pub rows : Config → State → List (List ℕ) → List ℕ → List ℕ → List (List (List ℕ))
rows cfg s fs f [] = if ends_at_end s then (fs ++ (f ∷ [])) ∷ [] else []
rows cfg s fs f (c ∷ rest) =
    if is_end (step cfg s c).1
    then fields_after (step cfg s c).1 fs f ∷ rows cfg (step cfg s c).0 [] [] rest
    else rows cfg (step cfg s c).0 (fields_after (step cfg s c).1 fs f)
    (field_after (step cfg s c).1 c f) rest

-- a row of one empty field: no line that is a record has these fields
abbrev pub is_blank : List (List ℕ) → Bool
is_blank [] = false
is_blank ([] ∷ []) = true
is_blank ([] ∷ (f ∷ fs)) = false
is_blank ((c ∷ f) ∷ fs) = false

abbrev pub is_row : List (List ℕ) → Bool
is_row r = not (is_blank r)

-- a blank row comes last
abbrev pub EndsAtBlank : List (List (List ℕ)) → Type 0
EndsAtBlank [] = Unit {0}
EndsAtBlank (r ∷ rs) = (is_blank r ≡ true → rs ≡ []) × EndsAtBlank rs

-- the reader is set up for records of any number of fields and has not failed, and the text's records are those so far
-- and those left
pub record IsLeft {R : Type 0} (rem : R → Option (List ℕ)) (d : ℕ) (text : List ℕ)
    (past : List (List (List ℕ))) (rdr : Reader R) : Type 0 where
  pub trims : rdr.trim ≡ trim.None
  pub ready : Ready rdr
  pub configured : rdr.config ≡ config d
  pub flexible : is_flexible rdr ≡ true
  pub left : List ℕ
  pub source : source_of rem rdr ≡ Some left
  pub ends : EndsAtBlank (rows (config d) rdr.state [] [] left)
  pub all : records d text ≡ past ++ filter is_row (rows (config d) rdr.state [] [] left)

-- what is said of the bytes of a reader, if these are known and plain
abbrev pub ForPlain : Option (List ℕ) → (List ℕ → Type 0) → Type 0
ForPlain known P = (text : List ℕ) → known ≡ Some text → IsPlain text → P text

-- what is said of the records of a text at which a reader begins
abbrev pub FromStart : {R : Type 0} → (R → Option (List ℕ)) → Reader R →
    (List (List (List ℕ)) → Type 0) → Type 0
FromStart rem rdr P = (d : ℕ) (text : List ℕ) → IsLeft rem d text [] rdr → P (records d text)

-- a record with these fields was read
abbrev pub ReadsOne : {R : Type 0} → (R → Option (List ℕ)) → Reader R → Reader R → List (List ℕ) →
    Type 0
ReadsOne rem old new fields = (d : ℕ) (text : List ℕ) (past : List (List (List ℕ))) →
    IsLeft rem d text past old → IsLeft rem d text (past ++ fields ∷ []) new

-- one read took the reader from here to there, and gave no row, or a blank one
pub record IsLastRead {R : Type 0} (rem : R → Option (List ℕ)) (old new : Reader R) : Type 0 where
  pub found : Bool
  pub fields : List (List ℕ)
  pub read : ReadRecord rem old new found fields
  pub none : found ≡ true → is_blank fields ≡ true

-- no record is left after those so far, as one read found out
pub record FindsNone {R : Type 0} (rem : R → Option (List ℕ)) (d : ℕ) (text : List ℕ)
    (past : List (List (List ℕ))) (old new : Reader R) : Type 0 where
  pub all : records d text ≡ past
  pub last : IsLastRead rem old new

-- no record was left, as one read found out
abbrev pub ReadsNone : {R : Type 0} → (R → Option (List ℕ)) → Reader R → Reader R → Type 0
ReadsNone rem old new = (d : ℕ) (text : List ℕ) (past : List (List (List ℕ))) →
    IsLeft rem d text past old → FindsNone rem d text past old new

-- the byte between fields
abbrev pub byte_of : Delimiter → ℕ
byte_of delimiter.Tab = 9
byte_of delimiter.Comma = 44
byte_of delimiter.Space = 32
