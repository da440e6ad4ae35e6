-- Numbers and bytes as bits, the most significant bit first.
use Rattle.std.specs.Prelude.{◌≡◌, ℕ, zero, suc, ◌+◌, ◌*◌, ◌/◌, ◌%◌, ◌^◌, ◌<◌, ◌==◌, Bool, true, false, if◌then◌else◌, nat_lt, nat_le, List, [], ◌∷◌, ◌++◌, length, take, drop, replicate, Result, Ok, Err}
use Rattle.std.specs.List.{flat_map}
use Rattle.gapcode.specs.declared.error.CodeError.{CodeError}
use Rattle.gapcode.specs.declared.error.CodeError.TheVariants.{Ended, TooLong}

-- the last w binary digits of x
unfoldable pub digits : ℕ → ℕ → List Bool
digits zero x = []
digits (suc w) x = (x / 2 ^ w % 2 == 1) ∷ digits w x

-- the number with these binary digits
unfoldable pub number_of : List Bool → ℕ
number_of [] = 0
number_of (b ∷ bits) = (if b then 2 ^ length bits else 0) + number_of bits

abbrev pub bits_of : List ℕ → List Bool
bits_of bytes = flat_map (digits 8) bytes

-- the bits from a place on
abbrev pub bits_from : List ℕ → ℕ → List Bool
bits_from bytes place = drop place (bits_of bytes)

-- the bits of whole bytes, and the lowest `used` of a byte after them
abbrev pub bits_with : List ℕ → ℕ → ℕ → List Bool
bits_with full last used = bits_of full ++ digits used last

-- the bytes have these bits, and zero bits up to the next whole byte
abbrev pub AreBytesOf : List Bool → List ℕ → Type 0
AreBytesOf bits bytes = (pad : ℕ) × (pad < 8) × (bits_of bytes ≡ bits ++ replicate pad false)

-- the greatest k below n with 2 ^ k at most x, and 0 if there is none
unfoldable pub log2_below : ℕ → ℕ → ℕ
log2_below zero x = 0
log2_below (suc n) x = if nat_le (2 ^ n) x then n else log2_below n x

-- a number has at most that many binary digits
abbrev pub most_digits : ℕ
most_digits = 64

-- of such a number
abbrev pub log2 : ℕ → ℕ
log2 x = log2_below most_digits x

-- Elias gamma
unfoldable pub gamma : ℕ → List Bool
gamma x = replicate (log2 x) false ++ digits (log2 x + 1) x

-- how many zero bits are in front
unfoldable pub zeros : List Bool → ℕ
zeros [] = 0
zeros (true ∷ bits) = 0
zeros (false ∷ bits) = suc (zeros bits)

-- the number whose gamma code comes next, and the bits after it
unfoldable pub gamma_at : List Bool → Result (ℕ × List Bool) CodeError
gamma_at bits =
    if nat_le most_digits (zeros bits) then Err TooLong
    else if nat_lt (length bits) (2 * zeros bits + 1) then Err Ended
    else Ok (
      number_of (take (zeros bits + 1) (drop (zeros bits) bits)),
      drop (2 * zeros bits + 1) bits,
    )

-- where a reader is in its bits
pub record Place : Type 0 where
  pub bits : List Bool
  pub position : ℕ

abbrev pub rest : Place → List Bool
rest p = drop p.position p.bits

-- the next bits, as many as a number has at most, with zero bits past the end
abbrev pub window_of : List Bool → List Bool
window_of bits = take most_digits (bits ++ replicate most_digits false)

abbrev pub with_rest : Result ℕ CodeError → List Bool → Result (ℕ × List Bool) CodeError
with_rest (Ok x) bits = Ok (x, bits)
with_rest (Err e) bits = Err e

-- a number, and the bits after the place that was found with it
abbrev pub with_rest_at : List Bool → Result (ℕ × ℕ) CodeError → Result (ℕ × List Bool) CodeError
with_rest_at bits (Ok found) = Ok (found.0, drop found.1 bits)
with_rest_at bits (Err e) = Err e
