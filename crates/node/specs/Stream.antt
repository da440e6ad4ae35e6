-- Lines and bodies on a stream.
use Rattle.std.specs.Prelude.{◌≡◌, ◌≢◌, ⊤, ℕ, ◌<◌, ◌≤◌, List, [], ◌∷◌, ◌++◌, length, Option}
use Rattle.std.specs.Io.KnownBytes.{Consumes, IsAtEnd}
use Rattle.std.specs.List.{All}
use Rattle.node.specs.declared.input.Line.{Line}
use Rattle.node.specs.declared.input.Line.TheVariants as outcome
use Rattle.node.specs.declared.input.TheConstants.{MOST_LINE}

-- no byte ends a line
abbrev pub HasNoEnd : List ℕ → Type 0
HasNoEnd bytes = All (λ b. b ≢ 10) bytes

-- a line was read, which is no longer than a command may be, and the LF after it
pub record WholeLine (old new : Option (List ℕ)) (line : List ℕ) : Type 0 where
  pub consumed : Consumes old new (line ++ 10 ∷ [])
  pub one_line : HasNoEnd line
  pub short : length line < MOST_LINE

-- the input was at its end
pub record NoLine (old new : Option (List ℕ)) : Type 0 where
  pub consumed : Consumes old new []
  pub end : IsAtEnd new

-- the input ended within a line
pub record CutLine (old new : Option (List ℕ)) (line : List ℕ) : Type 0 where
  pub some : line ≢ []
  pub one_line : HasNoEnd line
  pub consumed : Consumes old new line
  pub end : IsAtEnd new

-- as many bytes of a line were read as no command has
pub record LongLine (old new : Option (List ℕ)) (line : List ℕ) : Type 0 where
  pub one_line : HasNoEnd line
  pub consumed : Consumes old new line
  pub long : MOST_LINE ≤ length line

-- some bytes of a line were read, and no more than the first
pub record ReadsInLine (old new : Option (List ℕ)) : Type 0 where
  pub bytes : List ℕ
  pub some : bytes ≢ []
  pub first : length bytes ≡ 1
  pub consumed : Consumes old new bytes
  pub one_line : HasNoEnd bytes

-- what was read of a line, by what came of it; of a failed call nothing is said
abbrev pub ReadsLine : Option (List ℕ) → Option (List ℕ) → List ℕ → Line → Type 0
ReadsLine old new line outcome.Whole = WholeLine old new line
ReadsLine old new line outcome.None = NoLine old new
ReadsLine old new line outcome.Cut = CutLine old new line
ReadsLine old new line outcome.Long = LongLine old new line
ReadsLine old new line outcome.Memory = ReadsInLine old new
ReadsLine old new line outcome.Failed = ⊤

-- bytes of that size were read
pub record ReadsBody (size : ℕ) (old new : Option (List ℕ)) : Type 0 where
  pub bytes : List ℕ
  pub consumed : Consumes old new bytes
  pub long : length bytes ≡ size

-- the input ended within that many bytes
pub record CutsBody (size : ℕ) (old new : Option (List ℕ)) : Type 0 where
  pub bytes : List ℕ
  pub consumed : Consumes old new bytes
  pub fewer : length bytes < size
  pub end : IsAtEnd new
