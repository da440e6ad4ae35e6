-- What was read, as far as there was memory for it.
use Rattle.std.specs.Prelude.{◌≡◌, ℕ, true, List, [], ◌++◌}
use Rattle.sha2.specs.Hashers.{Holds256}
use Rattle.graph.specs.Planning.{Hashes}
use Rattle.checkpoint.specs.declared.text.Text.{Text}

-- nothing was read
pub record IsFresh (text : Text) : Type 0 where
  pub bytes : text.bytes.items ≡ []
  pub hasher : Holds256 text.hasher []

-- a piece follows: it is digested, and if all bytes are there after it, they are those before and the piece
pub record Adds (before after : Text) (piece : List ℕ) : Type 0 where
  pub digested : Hashes before.hasher after.hasher piece
  pub kept : after.whole ≡ true → (before.whole ≡ true) × (after.bytes.items ≡ before.bytes.items ++ piece)
