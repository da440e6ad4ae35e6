-- An edge list whose lines are read piece by piece.
use Rattle.std.specs.Prelude.{◌≡◌, ℕ, List, [], ◌++◌, Option}
use Rattle.std.specs.List.{All, flat_map}
use Rattle.ball_model.specs.Input.{IsPlain, Limits, records}
use Rattle.edgelist.specs.Pieces.{IsOn, IsThrough}
use Rattle.graph.specs.Records.{byte_of}
use Rattle.graph.specs.declared.edge.Edge.{Edge}
use Rattle.edgelist.specs.declared.piece.Piece.{Piece}

-- the records of a piece's lines
abbrev pub records_of : Piece → List (List (List ℕ))
records_of piece = records (byte_of piece.delimiter) piece.lines.items

abbrev pub has_plain_lines : Piece → Type 0
has_plain_lines piece = IsPlain piece.lines.items

abbrev pub has_no_lines : Piece → Type 0
has_no_lines piece = piece.lines.items ≡ []

-- the same lines, whether cut or not
pub record IsSameText (a b : Piece) : Type 0 where
  pub lines_are : b.lines.items ≡ a.lines.items
  pub delimiter_is : b.delimiter ≡ a.delimiter

pub record AreSameTexts (xs ys : List Piece) : Type 0 where
  pub records_are : flat_map records_of ys ≡ flat_map records_of xs
  pub plain : All has_plain_lines xs → All has_plain_lines ys

-- the first records of a text were read, those of the pieces follow, and then those of the lines that are held and of what
-- the reader has left
pub record AreOn (limits : Limits) (d : ℕ) (text : List ℕ) (number : ℕ)
    (labels : List (List ℕ)) (edges : List Edge) (pieces : List Piece) (lines : List ℕ)
    (left : Option (List ℕ)) : Type 0 where
  pub before : List (List (List ℕ))
  pub through : IsThrough limits number before labels edges
  pub plain : All has_plain_lines pieces
  pub on : IsOn d text (before ++ flat_map records_of pieces) lines left

-- the records of a text begin with these
pub record IsBegun (d : ℕ) (text : List ℕ) (done : List (List (List ℕ))) : Type 0 where
  pub more : List (List (List ℕ))
  pub all : records d text ≡ done ++ more

-- the first records of a text were read, and those of the pieces follow
pub record AreBegun (limits : Limits) (d : ℕ) (text : List ℕ) (number : ℕ)
    (labels : List (List ℕ)) (edges : List Edge) (pieces : List Piece) : Type 0 where
  pub before : List (List (List ℕ))
  pub through : IsThrough limits number before labels edges
  pub plain : All has_plain_lines pieces
  pub begun : IsBegun d text (before ++ flat_map records_of pieces)
