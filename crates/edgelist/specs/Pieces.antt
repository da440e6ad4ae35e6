-- Records that are read some lines at a time.
use Rattle.std.specs.Prelude.{◌≡◌, ◌≢◌, ℕ, ◌+◌, ◌-◌, Bool, true, false, List, [], ◌∷◌, ◌++◌, Option, Some, Result, IfOk, IfErr, length, slice_range, ◌⊎◌}
use Rattle.std.specs.Io.KnownBytes.{Consumes, IsAtEnd}
use Rattle.csv.specs.declared.reader.Reader.{Reader}
use Rattle.graph.specs.Records.{IsLeft}
use Rattle.edgelist.specs.Records.{StopsAtEnd}
use Rattle.ball_model.specs.Input.{IsPlain, Limits, network_from, records}
use Rattle.edgelist.specs.Reading.{AreWithin, EndsAt, IsClean, IsReadAs, IsRefusal, Refuses}
use Rattle.graph.specs.declared.edge.Edge.{Edge}
use Rattle.edgelist.specs.declared.limits.EdgeError.{EdgeError}

-- the first records were read, `number` in all: the labels and edges are theirs, and no check fails at any of them
pub record IsThrough (limits : Limits) (number : ℕ) (records : List (List (List ℕ)))
    (labels : List (List ℕ)) (edges : List Edge) : Type 0 where
  pub count : length records ≡ number
  pub so : IsReadAs records labels edges
  pub clean : IsClean limits records

-- some records of a text were read after others
pub record IsPartRead {R : Type 0} (remaining : R → Option (List ℕ)) (d : ℕ) (limits : Limits) (n : ℕ)
    (before : List (List (List ℕ))) (text : List ℕ) (reader : Reader R) (labels : List (List ℕ))
    (edges : List Edge) : Type 0 where
  pub past : List (List (List ℕ))
  pub at : IsLeft remaining d text past reader
  pub through : IsThrough limits n (before ++ past) labels edges

-- some records more of a text were read, and others may be left; or all were read, and none was asked for after the end;
-- or one was refused, and none was asked for after that one
pub record ReadsOn {R : Type 0} (remaining : R → Option (List ℕ)) (d : ℕ) (limits : Limits)
    (before : List (List (List ℕ))) (text : List ℕ) (result : Result (ℕ × Bool) EdgeError)
    (reader : Reader R) (labels : List (List ℕ)) (edges : List Edge) : Type 0 where
  pub goes : IfOk result (λ r. r.1 ≡ true →
      IsPartRead remaining d limits r.0 before text reader labels edges)
  pub end : IfOk result (λ r. r.1 ≡ false →
      IsThrough limits r.0 (before ++ records d text) labels edges)
  pub last : IfOk result (λ r. r.1 ≡ false → StopsAtEnd remaining d text reader)
  pub refused : (more : List (List (List ℕ))) →
      IfErr result (Refuses (network_from limits (before ++ (records d text ++ more))))
  pub ends : before ≡ [] →
      IfErr result (λ e. IsRefusal e → EndsAt remaining d text limits reader e)

-- these records more, none of which is refused, made these of those
pub record AddsRecords (limits : Limits) (number : ℕ) (rs : List (List (List ℕ)))
    (labels : List (List ℕ)) (edges : List Edge) (labels' : List (List ℕ)) (edges' : List Edge) :
    Type 0 where
  pub through : (before : List (List (List ℕ))) → IsThrough limits number before labels edges →
      IsThrough limits (number + length rs) (before ++ rs) labels' edges'
  pub within : AreWithin limits.vertices number labels edges →
      AreWithin limits.vertices (number + length rs) labels' edges'

-- no line is cut by the end of the text
abbrev pub EndsLine : List ℕ → Type 0
EndsLine text = (text ≡ []) ⊎ ((front : List ℕ) × (text ≡ front ++ 10 ∷ []))

-- what is held of a text is what follows that which was read, after an LF exactly if something was read
abbrev pub IsLeftOf : List ℕ → List ℕ → List ℕ → Type 0
IsLeftOf done left lines =
    ((done ≡ []) × (lines ≡ left)) ⊎ ((done ≢ []) × (lines ≡ 10 ∷ left))

-- bytes of a reader were put after those that are held
pub record Fills (old new : Option (List ℕ)) (lines lines' : List ℕ) : Type 0 where
  pub taken : List ℕ
  pub held : lines' ≡ lines ++ taken
  pub consumed : Consumes old new taken

-- the bytes from a line's beginning up to another's, with the LF before them if there is one
abbrev pub piece_of : List ℕ → ℕ → ℕ → List ℕ
piece_of lines at end = slice_range lines (at - 1) end

-- nothing is held, and a reader has nothing left
abbrev pub IsDone : List ℕ → Option (List ℕ) → Type 0
IsDone lines left = (lines ≡ []) × IsAtEnd left

-- the records of a text are these, and then those of the lines that are held and of what the reader has left
pub record IsOn (d : ℕ) (text : List ℕ) (done : List (List (List ℕ))) (lines : List ℕ)
    (left : Option (List ℕ)) : Type 0 where
  pub rest : List ℕ
  pub left_is : left ≡ Some rest
  pub all : records d text ≡ done ++ records d (lines ++ rest)
  pub plain : IsPlain (lines ++ rest)
