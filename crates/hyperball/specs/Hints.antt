-- What a user is told, unasked, of an input that is probably not what was meant.
use Rattle.std.specs.Prelude.{◌≡◌, ℕ, Bool, false, List, [], ◌∷◌, ◌++◌, codes}
use Rattle.std.specs.Io.KnownBytes.{Appends}
use Rattle.hyperball.specs.Progress.{mark_of_program}
use Rattle.hyperball.specs.Streams.{Writes}
use Rattle.hyperball.specs.declared.hints.Hint.{Hint}
use Rattle.hyperball.specs.declared.hints.Hint.TheVariants as hint

-- what a hint says
abbrev pub hint_text : Hint → List ℕ
hint_text hint.Gzip = codes "the input is compressed (gzip): zcat FILE | hyperball run .."
hint_text hint.MatrixMarket =
    codes "the input is a Matrix Market file: grep -v '^%' FILE | tail -n +2 | "
    ++ codes "cut -d ' ' -f 1,2 | hyperball run --delimiter space .."
hint_text hint.Tab = codes "no line has two fields; each has a tab: --delimiter tab?"
hint_text hint.Comma = codes "no line has two fields; each has a comma: --delimiter comma?"
hint_text hint.Space = codes "no line has two fields; each has a space: --delimiter space?"

-- its line, with the LF that ends it
abbrev pub line_of_hint : Hint → List ℕ
line_of_hint said = mark_of_program ++ hint_text said ++ 10 ∷ []

-- a beginning of the line of this hint is appended, and nothing else: all of it, unless a call failed
pub record TellsHint (said : Hint) (w : Writes) : Type 0 where
  pub front : List ℕ
  pub rest : List ℕ
  pub split : line_of_hint said ≡ front ++ rest
  pub appended : Appends w.contents.old w.contents.new front
  pub whole : w.failed.new ≡ w.failed.old → rest ≡ []

-- so it is of some hint, and no other one is due any more
pub record TellsOne (due : Bool) (w : Writes) : Type 0 where
  pub said : Hint
  pub tells : TellsHint said w
  pub closed : due ≡ false
