-- Guesses at the numbers of short labels.
use Rattle.std.specs.Prelude.{◌≡◌, ℕ, ◌+◌, ◌*◌, ◌<◌, ◌≤◌, List, [], ◌∷◌, length, take, drop, slice_index, slice_index_or, IfSome}
use Rattle.csv.specs.Records.{field_at}
use Rattle.edgelist.specs.declared.numbering.LabelGuess.{LabelGuess}
use Rattle.edgelist.specs.declared.key.LabelKey.{LabelKey}
use Rattle.edgelist.specs.declared.key.TheConstants.{FIRST, SHORT}
use Rattle.graph.specs.Finding.{StandsAt}

-- more bytes after those of a number, which are its digits to the base 256
unfoldable pub bytes_after : ℕ → List ℕ → ℕ
bytes_after w [] = w
bytes_after w (b ∷ bs) = bytes_after (w * 256 + b) bs

-- a short label as two numbers: its first 8 bytes, and the others with one more than how many all are
abbrev pub key_of : List ℕ → LabelKey
key_of label = record {
  low = bytes_after 0 (take FIRST label);
  high = bytes_after 0 (drop FIRST label) * 256 + length label + 1;
}

-- a label of at most 11 bytes
pub record IsShort (label : List ℕ) : Type 0 where
  pub bytes : (i : ℕ) → slice_index label i < 256
  pub few : length label ≤ SHORT

-- the key of a label, if that is short
abbrev pub IsKey : List ℕ → LabelKey → Type 0
IsKey label key = IsShort label → key ≡ key_of label

-- the key of a field, if it is there and short
abbrev pub HasKey : List (List ℕ) → ℕ → LabelKey → Type 0
HasKey fields i key = IfSome (field_at fields i) (λ label. IsKey label key)

-- the key of an entry
abbrev pub entry_key : LabelGuess → LabelKey
entry_key entry = record { low = entry.low; high = entry.high }

-- an entry of no label: the second number of a key is never 0
abbrev pub blank_entry : LabelGuess
blank_entry = record { low = 0; high = 0; number = 0 }

-- the number of an entry is that of the short label with its key
abbrev pub IsGuess : List (List ℕ) → LabelGuess → Type 0
IsGuess labels entry = (label : List ℕ) → IsShort label → key_of label ≡ entry_key entry →
    StandsAt labels label entry.number

-- each entry is a guess
pub record AreGuesses (labels : List (List ℕ)) (entries : List LabelGuess) : Type 0 where
  pub each : (i : ℕ) → IsGuess labels (slice_index_or entries i blank_entry)
