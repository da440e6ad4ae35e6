-- What a reader of bytes was given.
use Rattle.std.specs.Prelude.{◌≡◌, ℕ, List, ◌++◌, None, Some}
use Rattle.ball_model.specs.Input.{IsPlain, Limits, in_force, in_force_large, records}
use Rattle.edgelist.specs.Pieces.{EndsLine, IsLeftOf, IsThrough}
use Rattle.graph.specs.Records.{byte_of}
use Rattle.edgelist.specs.Reading.{limits_of}
use Rattle.edgelist.specs.declared.pieces.EdgeReader.{EdgeReader}
use Rattle.graph.specs.declared.delimiter.Delimiter.{Delimiter}
use Rattle.edgelist.specs.declared.limits.EdgeError.{EdgeError}
use Rattle.edgelist.specs.declared.limits.EdgeLimits.{EdgeLimits}

-- under limits that are in force the reader was given the text, of which whole lines were read and the rest is held
pub record IsGivenUnder (limits : Limits) (delimiter : Delimiter) (text : List ℕ)
    (reader : EdgeReader) : Type 0 where
  pub none : reader.failed ≡ None
  pub delimiter_is : reader.delimiter ≡ delimiter
  pub limits_are : limits_of reader.limits ≡ limits
  pub done : List ℕ
  pub left : List ℕ
  pub text_is : text ≡ done ++ left
  pub ends : EndsLine done
  pub held : IsLeftOf done left reader.lines.items
  pub through : IsPlain done → IsThrough (limits_of reader.limits) reader.number
      (records (byte_of delimiter) done) reader.reading.labels reader.reading.edges.items

-- a reader of a usual edge list was given the text
abbrev pub IsGiven : EdgeLimits → Delimiter → List ℕ → EdgeReader → Type 0
IsGiven limits delimiter text reader =
    IsGivenUnder (in_force (limits_of limits)) delimiter text reader

-- a reader of a large edge list was given the text
abbrev pub IsGivenLarge : EdgeLimits → Delimiter → List ℕ → EdgeReader → Type 0
IsGivenLarge limits delimiter text reader =
    IsGivenUnder (in_force_large (limits_of limits)) delimiter text reader

-- the reader answered that error, and answers it to each call that follows
abbrev pub HasFailed : EdgeError → EdgeReader → Type 0
HasFailed error reader = reader.failed ≡ Some error
