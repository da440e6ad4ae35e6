-- What a counted call of a stream did, which calls are sure to go well, and what several calls did.
use Rattle.std.specs.Prelude.{◌≡◌, ◌<◌, ◌≤◌, ◌+◌, ◌-◌, ◌++◌, ℕ, List, ⊤}
use Rattle.std.specs.Prelude.{Option, None, Some, IfSome, IfNone, option_map, take, length}
use Rattle.std.specs.Io.KnownBytes.{Appends, Consumes, Keeps, IsAtEnd}

-- the count rose
abbrev pub Rises : ℕ → ℕ → Type 0
Rises old new = old < new

-- the count rose by one
abbrev pub RisesByOne : ℕ → ℕ → Type 0
RisesByOne old new = new ≡ old + 1

-- a read that answered n bytes gave them, 0 only at the end or with no room; one that failed gave none
abbrev pub Gets : Option (List ℕ) → Option (List ℕ) → Option ℕ → List ℕ → Type 0
Gets old new told buf =
    IfSome told (λ n. Consumes old new (take n buf) × (n ≡ 0 → 0 < length buf → IsAtEnd new))
    × IfNone told (Keeps old new)

-- a write that answered n bytes appended them; one that failed appended none
abbrev pub Puts : Option (List ℕ) → Option (List ℕ) → Option ℕ → List ℕ → Type 0
Puts old new told bytes =
    IfSome told (λ n. Appends old new (take n bytes)) × IfNone told (Keeps old new)

-- how many calls are sure to go well (None: all), once one more was made
abbrev pub after_call : Option ℕ → Option ℕ
after_call sure = option_map (λ n. n - 1) sure

-- the next n calls are sure to go well
abbrev pub AreSure : Option ℕ → ℕ → Type 0
AreSure None n = ⊤
AreSure (Some k) n = n ≤ k

-- at most n calls later
abbrev pub AfterAtMost : ℕ → Option ℕ → Option ℕ → Type 0
AfterAtMost n None new = new ≡ None
AfterAtMost n (Some k) None = ⊥
AfterAtMost n (Some k) (Some j) = k ≤ j + n

-- a writer of these contents was given the text, and no call of it failed
pub record TextWritten {W : Type 0} (contents : W → Option (List ℕ)) (failed : W → ℕ) (old new : W)
    (text : List ℕ) : Type 0 where
  pub appended : Appends (contents old) (contents new) text
  pub counted : failed new ≡ failed old

-- a beginning of the bytes was appended, and not all of them
pub record PutsFront (old new : Option (List ℕ)) (bytes : List ℕ) : Type 0 where
  pub front : List ℕ
  pub rest : List ℕ
  pub split : bytes ≡ front ++ rest
  pub fewer : 0 < length rest
  pub appended : Appends old new front

-- at most n bytes were read
pub record TakesAtMost (n : ℕ) (old new : Option (List ℕ)) : Type 0 where
  pub bytes : List ℕ
  pub consumed : Consumes old new bytes
  pub few : length bytes ≤ n

-- the last n bytes were read into the front of a longer buffer
pub record EndsAfter (n : ℕ) (old new : Option (List ℕ)) (buf : List ℕ) : Type 0 where
  pub fewer : n < length buf
  pub consumed : Consumes old new (take n buf)
  pub last : IsAtEnd new
