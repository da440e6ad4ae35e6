-- Lists of ascending numbers as bits.
use Rattle.std.specs.Prelude.{◌≡◌, ℕ, zero, suc, ◌+◌, ◌-◌, ◌*◌, ◌%◌, ◌<◌, ◌≤◌, Bool, false, if◌then◌else◌, nat_lt, nat_le, List, [], ◌∷◌, ◌++◌, length, take, drop, replicate, Result, Ok, Err}
use Rattle.std.specs.List.{flat_map, AllByRecursion}
use Rattle.gapcode.specs.declared.error.CodeError.{CodeError}
use Rattle.gapcode.specs.declared.error.CodeError.TheVariants as errors
use Rattle.gapcode.specs.Bits.{gamma, gamma_at, bits_of, number_of}

-- the gaps between neighbours
abbrev pub gaps : ℕ → List ℕ → List Bool
gaps last [] = []
gaps last (x ∷ xs) = gamma (x - last) ++ gaps x xs

-- the degree, then the first element, then the gap to each further one
abbrev pub list_bits : List ℕ → List Bool
list_bits [] = gamma 1
list_bits (x ∷ xs) = gamma (length xs + 2) ++ (gamma (x + 1) ++ gaps x xs)

-- the bytes spell the lists: one after the other, then less than a byte of zero bits
abbrev pub IsSpelling : List ℕ → List (List ℕ) → Type 0
IsSpelling bytes lists =
    (pad : ℕ) × (pad < 8) × (bits_of bytes ≡ flat_map list_bits lists ++ replicate pad false)

-- strictly ascending, from least on
abbrev pub AscendsFrom : ℕ → List ℕ → Type 0
AscendsFrom least [] = Unit {0}
AscendsFrom least (x ∷ xs) = (least ≤ x) × AscendsFrom (x + 1) xs

-- strictly ascending, from least on and below bound
abbrev pub IsAscending : ℕ → ℕ → List ℕ → Type 0
IsAscending bound least [] = Unit {0}
IsAscending bound least (x ∷ xs) = (least ≤ x) × (x < bound) × IsAscending bound (x + 1) xs

-- each list is strictly ascending and below bound
abbrev pub AreAscending : ℕ → List (List ℕ) → Type 0
AreAscending bound lists = AllByRecursion (IsAscending bound 0) lists

-- the bytes spell these lists: that many, each strictly ascending and below bound
pub record AreSpelled (bound many : ℕ) (bytes : List ℕ) (lists : List (List ℕ)) : Type 0 where
  pub spelled : IsSpelling bytes lists
  pub count : length lists ≡ many
  pub ascend : AreAscending bound lists

-- the first number above all of 32 bits
abbrev pub beyond : ℕ
beyond = 4294967296

-- ---- reading from left to right, with the first refusal that is met

infixl 10 ◌>>=◌
abbrev pub ◌>>=◌ : {A B : Type 0} →
    Result A CodeError → (A → Result B CodeError) → Result B CodeError
(Ok x) >>= f = f x
(Err e) >>= f = Err e

-- n more elements, the next of them at least `least`, and the bits after them
unfoldable pub elements_at : ℕ → ℕ → ℕ → List Bool → Result (List ℕ × List Bool) CodeError
elements_at bound zero least bits = Ok ([], bits)
elements_at bound (suc n) least bits = do
  gap ← gamma_at bits
  if nat_lt bound (least + gap.0) then Err errors.Range else do
    others ← elements_at bound n (least + gap.0) gap.1
    Ok ((least + (gap.0 - 1)) ∷ others.0, others.1)

unfoldable pub list_at : ℕ → List Bool → Result (List ℕ × List Bool) CodeError
list_at bound bits = do
  degree ← gamma_at bits
  if nat_lt bound (degree.0 - 1) then Err errors.Range else do
    elements_at bound (degree.0 - 1) 0 degree.1

unfoldable pub lists_at : ℕ → ℕ → List Bool → Result (List (List ℕ) × List Bool) CodeError
lists_at bound zero bits = Ok ([], bits)
lists_at bound (suc n) bits = do
  first ← list_at bound bits
  others ← lists_at bound n first.1
  Ok (first.0 ∷ others.0, others.1)

-- the bits at the front after which whole bytes are left
abbrev pub first_of_byte : ℕ → List Bool → List Bool
first_of_byte left bits = take (left % 8) bits

-- what may follow the lists
abbrev pub end_at : List Bool → Result (Unit {0}) CodeError
end_at bits =
    if nat_lt 0 (number_of (first_of_byte (length bits) bits)) then Err errors.Padding
    else if nat_le 8 (length bits) then Err errors.Trailing
    else Ok tt

-- the lists that the bytes spell, or the first refusal
unfoldable pub all_of : ℕ → ℕ → List ℕ → Result (List (List ℕ)) CodeError
all_of bound count bytes = do
  lists ← lists_at bound count (bits_of bytes)
  none ← end_at lists.1
  Ok lists.0

-- it is what the reading gives, or memory was refused if the reading gives lists
abbrev pub GivesOrMemory :
    Result (List (List ℕ)) CodeError → Result (List (List ℕ)) CodeError → Type 0
GivesOrMemory (Ok lists) due = Ok lists ≡ due
GivesOrMemory (Err errors.Memory) due = (lists : List (List ℕ)) × (due ≡ Ok lists)
GivesOrMemory (Err e) due = Err e ≡ due

-- ---- what a loop over the bits keeps

-- the bits after what was read
abbrev pub bits_after : {A : Type 0} → Result (A × List Bool) CodeError →
    Result (List Bool) CodeError
bits_after (Ok x) = Ok x.1
bits_after (Err e) = Err e

-- the bits after a place
abbrev pub from_place : List Bool → Result ℕ CodeError → Result (List Bool) CodeError
from_place bits (Ok position) = Ok (drop position bits)
from_place bits (Err e) = Err e

-- ---- one list, element by element

abbrev pub values : Result (List ℕ × List Bool) CodeError → List ℕ
values (Ok x) = x.0
values (Err e) = []

-- n elements, whatever their bound
abbrev pub elements_of : ℕ → ℕ → List Bool → List ℕ
elements_of n least bits = values (elements_at beyond n least bits)

-- those from a place among the bits of bytes on
abbrev pub elements_from : List ℕ → ℕ → ℕ → ℕ → List ℕ
elements_from bytes place n least = elements_of n least (drop place (bits_of bytes))

-- the list that the bits begin with
abbrev pub read_list : List Bool → List ℕ
read_list bits = values (list_at beyond bits)

-- this list, and the bits after it, begin at the place
abbrev pub BeginsAt : List ℕ → ℕ → List ℕ × List Bool → Type 0
BeginsAt bytes place list = list_at beyond (drop place (bits_of bytes)) ≡ Ok list

-- these lists, and the bits after them, are the first of the bytes
abbrev pub BeginWith : List ℕ → ℕ → List (List ℕ) × List Bool → Type 0
BeginWith bytes count lists = lists_at beyond count (bits_of bytes) ≡ Ok lists

-- that many elements are spelled from the place on
pub record SpellsFrom (bytes : List ℕ) (place left least : ℕ) : Type 0 where
  pub inside : place ≤ 8 * length bytes
  pub coded : (x : List ℕ × List Bool)
      × (elements_at beyond left least (drop place (bits_of bytes)) ≡ Ok x)

-- a list is spelled from the place on
pub record IsPlaced (bytes : List ℕ) (place : ℕ) : Type 0 where
  pub inside : place ≤ 8 * length bytes
  pub coded : (x : List ℕ × List Bool) × (list_at beyond (drop place (bits_of bytes)) ≡ Ok x)
