-- Labels as the lines of a text: an LF after each, and none is empty.
use Rattle.std.specs.Prelude.{◌≡◌, ℕ, ◌-◌, ◌==◌, List, [], ◌∷◌, ◌++◌, if◌then◌else◌, length, map, take, Option, None, Some, option_map, Result, Ok, Err}
use Rattle.ball_model.specs.Input.{is_filled}
use Rattle.graph.specs.declared.labels.LinesError.{LinesError}
use Rattle.graph.specs.declared.labels.LinesError.TheVariants as refused

-- the lines of a text whose first has begun: an LF ends each, none is empty, and nothing follows the last
unfoldable pub lines_after : List ℕ → List ℕ → Option (List (List ℕ))
lines_after line [] = if is_filled line then None else Some []
lines_after line (c ∷ text) =
    if c == 10 then
    (if is_filled line then option_map (λ lines. line ∷ lines) (lines_after [] text) else None)
    else lines_after (line ++ c ∷ []) text

-- the lines, if this is their number
abbrev pub if_count_is : ℕ → Option (List (List ℕ)) → Option (List (List ℕ))
if_count_is count None = None
if_count_is count (Some lines) = if length lines == count then Some lines else None

-- the labels of a number of vertices, if the text has this number of lines
abbrev pub labels_in : ℕ → List ℕ → Option (List (List ℕ))
labels_in count text = if_count_is count (lines_after [] text)

-- these labels, or a refusal if there are none; memory is refused only where there are some
abbrev pub GivesLines : Option (List (List ℕ)) → Result (List (List ℕ)) LinesError → Type 0
GivesLines due (Ok labels) = due ≡ Some labels
GivesLines due (Err refused.Lines) = due ≡ None
GivesLines due (Err refused.Memory) = (labels : List (List ℕ)) × (due ≡ Some labels)

-- lists without the last n items of each
abbrev pub shortened : ℕ → List (List ℕ) → List (List ℕ)
shortened n lists = map (λ xs. take (length xs - n) xs) lists
