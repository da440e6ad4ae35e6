-- Laws of the bytes of stored graphs. Each is the contract of a function of src/laws.rt.
use Rattle.std.specs.Prelude.{◌≡◌, ℕ, List, ◌++◌, length, take, Ok}
use Rattle.std.specs.List.{flat_map}
use Rattle.stored.specs.Reading.{AreBytes, stored_reading}
use Rattle.stored.specs.Stored.{StoredValue, IsStorable, blocks_of, network_bytes}

-- what is stored of a network is read as that, whatever follows
abbrev pub StoredIsRead : Type 0
StoredIsRead = (v : StoredValue) (more : List ℕ) → IsStorable v →
    stored_reading (network_bytes v ++ more) ≡ Ok (v, length (network_bytes v))

-- what is read is the spelling of a network: so no network has two, and nothing else is taken for one
abbrev pub SpellingIsOne : Type 0
SpellingIsOne = (bytes : List ℕ) (v : StoredValue) (n : ℕ) → AreBytes bytes →
    stored_reading bytes ≡ Ok (v, n) → IsStorable v × (take n bytes ≡ network_bytes v)

-- no two networks have one spelling, and none begins that of another
abbrev pub MeaningIsOne : Type 0
MeaningIsOne = (v w : StoredValue) (more others : List ℕ) → IsStorable v → IsStorable w →
    network_bytes v ++ more ≡ network_bytes w ++ others → (v ≡ w) × (more ≡ others)

-- the blocks of some lists are these lists
abbrev pub BlocksAreAll : Type 0
BlocksAreAll = (lists : List (List ℕ)) → flat_map (λ block. block) (blocks_of lists) ≡ lists
