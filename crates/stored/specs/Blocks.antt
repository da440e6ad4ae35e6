-- Where a block ends.
use Rattle.std.specs.Prelude.{◌≡◌, ℕ, ◌-◌, ◌<◌, ◌≤◌, List, ◌∷◌, length, take, drop}
use Rattle.stored.specs.Stored.{blocks_of}

-- the lists from one on begin with the block up to another
pub record EndsAt (lists : List (List ℕ)) (from to : ℕ) : Type 0 where
  pub some : from < to
  pub within : to ≤ length lists
  pub first : blocks_of (drop from lists)
      ≡ take (to - from) (drop from lists) ∷ blocks_of (drop to lists)
