-- The labels of vertices.
use Rattle.std.specs.Prelude.{ℕ, List, map, Bool, [], ◌∷◌, ◌++◌, if◌then◌else◌}
use Rattle.std.specs.Global.{Vec}
use Rattle.indexmap.specs.IndexSet.{IndexSet}
use Rattle.std.specs.List.{list_any}
use Rattle.std.specs.Str.{bytes_eq}

abbrev pub texts : {S : Type 0} → IndexSet (Vec ℕ) S → List (List ℕ)
texts labels = map (λ label. label.items) labels.keys

-- whether the label is one of these
abbrev pub has_label : List (List ℕ) → List ℕ → Bool
has_label labels l = list_any (λ k. bytes_eq k l) labels

-- the labels, and this one after them if it is new
abbrev pub with_label : List (List ℕ) → List ℕ → List (List ℕ)
with_label labels l = if has_label labels l then labels else labels ++ l ∷ []
