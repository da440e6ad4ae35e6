-- Bits in whole bytes.
use Rattle.std.proofs.Common.{◌≡◌, ℕ, zero, suc, ◌+◌, ◌-◌, ◌/◌, ◌<◌, ◌≤◌, Bool, false, List, [], ◌∷◌, ◌++◌, length, get_or, take, drop, refl, ap, sym, ◌∙◌, arith, append_assoc, length-append}
use Rattle.std.specs.Prelude.{replicate}
use Rattle.std.specs.List.{AllByRecursion}
use Rattle.std.proofs.lemmas.List.{take_at, drop_at, drop-append-le, length-replicate}
use Rattle.gapcode.specs.Bits.{digits, bits_of, number_of, AreBytesOf}
use Rattle.gapcode.proofs.DigitsLemmas.{length-digits, number_of-small}
use Rattle.gapcode.proofs.WordsLemmas.{length-bits_of}
use Rattle.stored.specs.Stored.{packed}

-- zero bits in two parts
pub zeros_split : (a b : ℕ) → replicate (a + b) false ≡ replicate a false ++ replicate b false
zeros_split zero b = let e : 0 + b ≡ b = omega arith in rw e refl
zeros_split (suc a) b = let e : suc a + b ≡ suc (a + b) = omega arith in rw e (ap (λ (l : List Bool). false ∷ l) (zeros_split a b))

-- the first byte
first_byte : (b pad : ℕ) (rest bits : List Bool) → b < 256 → pad < 8 → digits 8 b ++ rest ≡ bits ++ replicate pad false → number_of (take 8 (bits ++ replicate 8 false)) ≡ b
first_byte b pad rest bits small short e =
    let n : 8 ≡ pad + (8 - pad) = omega arith in
    let all : bits ++ replicate 8 false ≡ digits 8 b ++ (rest ++ replicate (8 - pad) false) =
    ap (λ (k : ℕ). bits ++ replicate k false) n ∙ ap (λ (l : List Bool). bits ++ l) (zeros_split pad (8 - pad)) ∙ sym (append_assoc bits (replicate pad false) (replicate (8 - pad) false))
    ∙ ap (λ (l : List Bool). l ++ replicate (8 - pad) false) (sym e) ∙ append_assoc (digits 8 b) rest (replicate (8 - pad) false) in
    ap (λ (l : List Bool). number_of (take 8 l)) all ∙ ap number_of (take_at (digits 8 b) (rest ++ replicate (8 - pad) false) 8 (length-digits 8 b)) ∙ number_of-small 8 b (omega (arith, small))

-- the bits after it
other_bits : (b pad : ℕ) (rest bits : List Bool) → 8 ≤ length bits → digits 8 b ++ rest ≡ bits ++ replicate pad false → rest ≡ drop 8 bits ++ replicate pad false
other_bits b pad rest bits le e =
    sym (drop_at (digits 8 b) rest 8 (length-digits 8 b)) ∙ ap (drop 8) e ∙ drop-append-le 8 bits (replicate pad false) le

bytes_are : (bytes : List ℕ) (bits : List Bool) (pad : ℕ) → AllByRecursion (λ b. b < 256) bytes → pad < 8 → bits_of bytes ≡ bits ++ replicate pad false → bytes ≡ packed (length bytes) bits
unfolding packed
bytes_are [] bits pad small short e = refl
bytes_are (b ∷ []) bits pad small short e = ap (λ (n : ℕ). n ∷ []) (sym (first_byte b pad (bits_of []) bits small.0 short e))
bytes_are (b ∷ c ∷ bytes) bits pad small short e =
    let rest = bits_of (c ∷ bytes) in
    let long : 8 ≤ length bits = omega (arith, ap length e, length-append (digits 8 b) rest, length-digits 8 b, length-bits_of (c ∷ bytes), length-append bits (replicate pad false), length-replicate pad false, short) in
    ap (λ (n : ℕ). n ∷ c ∷ bytes) (sym (first_byte b pad rest bits small.0 short e))
    ∙ ap (λ (l : List ℕ). number_of (take 8 (bits ++ replicate 8 false)) ∷ l) (bytes_are (c ∷ bytes) (drop 8 bits) pad small.1 short (other_bits b pad rest bits long e))

all_small : (bytes : List ℕ) → ((i : ℕ) → get_or bytes i 0 < 256) → AllByRecursion (λ b. b < 256) bytes
all_small [] small = tt
all_small (b ∷ bytes) small = (small 0, all_small bytes (λ i. small (suc i)))

-- bytes of bits, with zero bits up to the next whole byte
pub packed_are : (bytes : List ℕ) (bits : List Bool) → ((i : ℕ) → get_or bytes i 0 < 256) → AreBytesOf bits bytes → bytes ≡ packed ((length bits + 7) / 8) bits
packed_are bytes bits small (pad, short, e) =
    let many : length bytes ≡ (length bits + 7) / 8 = omega (arith, ap length e, length-bits_of bytes, length-append bits (replicate pad false), length-replicate pad false, short) in
    bytes_are bytes bits pad (all_small bytes small) short e ∙ ap (λ (n : ℕ). packed n bits) many
