-- Records that are read one after another.
use Rattle.std.specs.Prelude.{◌≡◌, ℕ, Bool, true, false, not, List, [], ◌∷◌, ◌++◌, if◌then◌else◌, Option, None, Some}
use Rattle.csv.specs.declared.reader.Reader.{Reader}
use Rattle.ball_model.specs.Input.{has_form, records}
use Rattle.graph.specs.Records.{IsLeft, ReadsOne, IsLastRead, ReadsNone}

-- all records were read, and the reader is as a read leaves it that found no record more
pub record StopsAtEnd {R : Type 0} (remaining : R → Option (List ℕ)) (d : ℕ) (text : List ℕ)
    (reader : Reader R) : Type 0 where
  pub before : Reader R
  pub at : IsLeft remaining d text (records d text) before
  pub last : IsLastRead remaining before reader

-- a record has one or two fields, and none is empty
abbrev pub HasForm : List (List ℕ) → Type 0
HasForm fields = has_form fields ≡ true

-- some records were read, one after another
abbrev pub ReadsRecords : {R : Type 0} → (R → Option (List ℕ)) → Reader R → Reader R →
    List (List (List ℕ)) →
    Type 0
ReadsRecords remaining old new rs = (d : ℕ) (text : List ℕ) (past : List (List (List ℕ))) →
    IsLeft remaining d text past old → IsLeft remaining d text (past ++ rs) new

-- some records were read, and then one with these fields
pub record ReadsOneAfter {R : Type 0} (remaining : R → Option (List ℕ)) (old new : Reader R)
    (rs : List (List (List ℕ))) (fields : List (List ℕ)) : Type 0 where
  pub middle : Reader R
  pub reads : ReadsRecords remaining old middle rs
  pub one : ReadsOne remaining middle new fields

-- some records were read, and then none was left
pub record ReadsNoneAfter {R : Type 0} (remaining : R → Option (List ℕ)) (old new : Reader R)
    (rs : List (List (List ℕ))) : Type 0 where
  pub middle : Reader R
  pub reads : ReadsRecords remaining old middle rs
  pub none : ReadsNone remaining middle new
