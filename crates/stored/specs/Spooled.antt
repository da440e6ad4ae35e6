-- What is on its way to a writer.
use Rattle.std.specs.Prelude.{◌≡◌, ◌++◌, ℕ, List, Option, take}
use Rattle.stored.specs.declared.spool.Spool.{Spool}
use Rattle.graph.specs.Planning.{Hashes}
use Rattle.stored.specs.Writing.{Writes}

-- the bytes that wait
abbrev pub waiting : Spool → List ℕ
waiting spool = take spool.used spool.piece

-- of what waited before, and these bytes after it, a first part was digested and written, and the rest waits now
pub record PassesOn {W : Type 0} (contents : W → Option (List ℕ)) (failed : W → ℕ)
    (sure : W → Option ℕ) (room : W → ℕ) (old new : W) (before after : Spool)
    (bytes : List ℕ) : Type 0 where
  pub first : List ℕ
  pub split : waiting before ++ bytes ≡ first ++ waiting after
  pub written : Writes contents failed sure room old new first
  pub digested : Hashes before.hasher after.hasher first
