-- Laws of codes and of spellings.
use Rattle.std.specs.Prelude.{◌≡◌, ℕ, ◌^◌, ◌<◌, ◌≤◌, Bool, List, ◌++◌, length, Ok}
use Rattle.std.specs.List.{AllByRecursion}
use Rattle.gapcode.specs.Bits.{gamma, gamma_at}
use Rattle.gapcode.specs.Lists.{IsSpelling, AreAscending, all_of}

-- a code is read as its number, whatever follows
abbrev pub CodeIsRead : Type 0
CodeIsRead = (x : ℕ) (more : List Bool) → 0 < x → x < 2 ^ 64 →
    gamma_at (gamma x ++ more) ≡ Ok (x, more)

-- no code begins another
abbrev pub CodesArePrefixFree : Type 0
CodesArePrefixFree = (x y : ℕ) (more others : List Bool) → 0 < x → x < 2 ^ 64 → 0 < y → y < 2 ^ 64 →
    gamma x ++ more ≡ gamma y ++ others → x ≡ y

-- bytes that spell lists are read as these
abbrev pub SpellingIsRead : Type 0
SpellingIsRead = (bound : ℕ) (bytes : List ℕ) (lists : List (List ℕ)) → bound ≤ 2 ^ 32 →
    IsSpelling bytes lists → AreAscending bound lists → all_of bound (length lists) bytes ≡ Ok lists

-- no lists have two spellings
abbrev pub SpellingIsOne : Type 0
SpellingIsOne = (xs ys : List ℕ) (lists : List (List ℕ)) → AllByRecursion (λ b. b < 256) xs →
    AllByRecursion (λ b. b < 256) ys → IsSpelling xs lists → IsSpelling ys lists → xs ≡ ys

-- no bytes spell the same number of lists in two ways
abbrev pub MeaningIsOne : Type 0
MeaningIsOne = (bound : ℕ) (bytes : List ℕ) (xss yss : List (List ℕ)) → bound ≤ 2 ^ 32 →
    length xss ≡ length yss → AreAscending bound xss → AreAscending bound yss →
    IsSpelling bytes xss → IsSpelling bytes yss → xss ≡ yss
