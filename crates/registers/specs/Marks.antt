-- Marks, one a row.
use Rattle.std.specs.Prelude.{◌≡◌, ℕ, ◌<◌, ◌≤◌, Bool, true, false, List, length, slice_index_or}

-- no place from the one up to the other is marked
abbrev pub AreBlank : List Bool → ℕ → ℕ → Type 0
AreBlank marks from to = (k : ℕ) → from ≤ k → k < to → slice_index_or marks k false ≡ false

-- the first marked place from this one on, or the end if there is none
pub record IsNextMarked (marks : List Bool) (from next : ℕ) : Type 0 where
  pub low : from ≤ next
  pub high : next ≤ length marks
  pub blank : AreBlank marks from next
  pub marked : next < length marks → slice_index_or marks next false ≡ true
