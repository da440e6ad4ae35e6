-- Where each of some lists begins.
use Rattle.std.specs.Prelude.{◌≡◌, ℕ, ◌+◌, ◌<◌, Bool, false, List, [], ◌∷◌, ◌++◌, length, drop, map, replicate}
use Rattle.std.specs.List.{flat_map}
use Rattle.gapcode.specs.Bits.{bits_of}
use Rattle.gapcode.specs.Lists.{beyond, list_bits, read_list, AreAscending}

-- the lists that begin at these places
unfoldable pub lists_of : List Bool → List ℕ → List (List ℕ)
lists_of bits places = map (λ place. read_list (drop place bits)) places

-- where each list begins, the first of them at n
unfoldable pub starts_from : ℕ → List (List ℕ) → List ℕ
starts_from n [] = []
starts_from n (xs ∷ lists) = n ∷ starts_from (n + length (list_bits xs)) lists

-- the bits are the lists that begin at the places, and then `more`
pub record IsIndex (bits more : List Bool) (places : List ℕ) : Type 0 where
  pub whole : bits ≡ flat_map list_bits (lists_of bits places) ++ more
  pub placed : places ≡ starts_from 0 (lists_of bits places)
  pub ascend : AreAscending beyond (lists_of bits places)

-- the bytes are the lists that begin at the places, and then less than a byte of zero bits
pub record IsStored (bytes : List ℕ) (places : List ℕ) : Type 0 where
  pub pad : ℕ
  pub short : pad < 8
  pub index : IsIndex (bits_of bytes) (replicate pad false) places
