-- The text of answers as it is put together: words after spaces, and the names that a replica holds.
use Rattle.std.specs.Prelude.{ℕ, List, ◌∷◌, map}
use Rattle.std.specs.List.{filter, flat_map, range_with_len}
use Rattle.ball_model.specs.declared.names.BatchName.{BatchName}
use Rattle.ball_model.specs.Content.{names_of}
use Rattle.ball_model.specs.State.{State, content_of}

-- words, each after a space
unfoldable pub spaced : List (List ℕ) → List ℕ
spaced words = flat_map (λ word. 32 ∷ word) words

-- the names of the batches of a superstep that a replica holds, ascending by source
abbrev pub names_at : State → ℕ → ℕ → List BatchName
names_at v s n =
    map (λ q. record { superstep = s; source = q; target = v.part.number })
    (filter (λ q. (content_of v).holds s q) (range_with_len 0 n))

-- all names that it holds
abbrev pub names_in : State → List BatchName
names_in v = names_of v.part.plan v.part.number (content_of v)
