-- Inputs of more than one section: a line of exactly %% is between two of them.
use Rattle.std.specs.Prelude.{ℕ, Bool, true, List, [], ◌∷◌, ◌==◌, ◌&&◌, if◌then◌else◌, Option, None, Some}

-- what follows the end of a line, if one is at the front: an LF, a CR and an LF, or the end of the input
abbrev pub after_line : List ℕ → Option (List ℕ)
after_line [] = Some []
after_line (a ∷ []) = if a == 10 then Some [] else None
after_line (a ∷ b ∷ rest) =
    if a == 10 then Some (b ∷ rest) else if (a == 13) && (b == 10) then Some rest else None

-- what follows a line of exactly %%, if one is at the front
abbrev pub after_mark : List ℕ → Option (List ℕ)
after_mark [] = None
after_mark (a ∷ []) = None
after_mark (a ∷ b ∷ rest) = if (a == 37) && (b == 37) then after_line rest else None

abbrev pub longer : ℕ → Option (List ℕ × List ℕ) → Option (List ℕ × List ℕ)
longer c None = None
longer c (Some sections) = Some (c ∷ sections.0, sections.1)

abbrev pub sections_or : Option (List ℕ) → Option (List ℕ × List ℕ) → Option (List ℕ × List ℕ)
sections_or None later = later
sections_or (Some rest) later = Some ([], rest)

-- what is before the first line of exactly %% and what follows it; the flag says that a line begins here
unfoldable pub sections_from : Bool → List ℕ → Option (List ℕ × List ℕ)
sections_from begins [] = None
sections_from begins (c ∷ rest) =
    sections_or (if begins then after_mark (c ∷ rest) else None)
    (longer c (sections_from (c == 10) rest))

-- the sections before and after the first line of exactly %%
abbrev pub sections_of : List ℕ → Option (List ℕ × List ℕ)
sections_of input = sections_from true input
