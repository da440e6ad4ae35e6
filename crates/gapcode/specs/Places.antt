-- Ascending places by their lowest 32 bits, and where those start anew.
use Rattle.std.specs.Prelude.{ℕ, ◌+◌, ◌*◌, ◌<◌, nat_le, List, [], ◌∷◌, length}
use Rattle.std.specs.List.{AllByRecursion, count_by}
use Rattle.gapcode.specs.Lists.{beyond}

-- how many of the marks are at entry i or before
abbrev pub marks_up_to : ℕ → List ℕ → ℕ
marks_up_to i marks = count_by (λ mark. nat_le mark i) marks

-- the places, the first of them entry i: each mark up to an entry adds what 32 bits do not hold
unfoldable pub places_from : ℕ → List ℕ → List ℕ → List ℕ
places_from i marks [] = []
places_from i marks (low ∷ lows) =
    (low + beyond * marks_up_to i marks) ∷ places_from (i + 1) marks lows

-- each mark is of an entry that is there
abbrev pub AreMarks : List ℕ → List ℕ → Type 0
AreMarks lows marks = AllByRecursion (λ mark. mark < length lows) marks
