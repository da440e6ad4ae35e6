-- How a script is read: words cut off one after another, numbers, and events added line by line.
use Rattle.std.specs.Prelude.{ℕ, ◌==◌, ◌&&◌, nat_lt, Bool, true, List, [], ◌∷◌, ◌++◌, Option, None, Some, option_map, if◌then◌else◌, Result, Ok, Err, decimal}
use Rattle.std.specs.Str.{bytes_eq}
use Rattle.std.specs.Option.{is_some}
use Rattle.ball_model.specs.declared.world.Event.{Event}
use Rattle.ball_model.specs.Input.{fields, is_record}
use Rattle.ball_model.specs.WorldText.{command_of, value_from}
use Rattle.ball_model.specs.Sections.{longer}

-- the number that a word spells, which is below a bound and spelled as numbers are printed
unfoldable pub number_below : ℕ → List ℕ → Option ℕ
number_below bound word =
    if nat_lt (value_from 0 word) bound && bytes_eq word (decimal (value_from 0 word))
    then Some (value_from 0 word)
    else None

-- what is before the first such byte, and what follows it
unfoldable pub cut_of : ℕ → List ℕ → Option (List ℕ × List ℕ)
cut_of d [] = None
cut_of d (c ∷ rest) = if c == d then Some ([], rest) else longer c (cut_of d rest)

-- the events with that of one line more, if the line is not skipped
abbrev pub added : List Event → List ℕ → Option (List Event)
added es line =
    if is_record line
    then option_map (λ e. es ++ e ∷ []) (command_of (fields 32 line))
    else Some es

-- a line is a command, or is skipped
abbrev pub is_command_or_skipped : List ℕ → Bool
is_command_or_skipped line = if is_record line then is_some (command_of (fields 32 line)) else true

-- the number of the first line of a script that is no command
abbrev pub fault_line : Result (List Event) ℕ → Option ℕ
fault_line (Ok es) = None
fault_line (Err line) = Some line
