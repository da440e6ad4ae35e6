-- Bits put at the end.
use Rattle.std.proofs.Common.{◌≡◌, ℕ, suc, ◌+◌, ◌-◌, ◌*◌, ◌/◌, ◌%◌, ◌^◌, ◌<◌, ◌≤◌, Bool, false, List, [], ◌∷◌, ◌++◌, length, drop, sym, ap, subst, ◌∙◌, append_assoc, arith}
use Rattle.std.specs.Int.{w64, to_be_bytes}
use Rattle.std.specs.Prelude.{bit_or, replicate}
use Rattle.std.proofs.Math.Nat.{pow-le-pow_right}
use Rattle.std.proofs.lemmas.Nat.{pow_pos, shr_high, shr_below, pow-add, mul-add-lt, shl_whole, or_shifted, leading_top}
use Rattle.std.specs.Int.Count.{count_leading_zeros}
use Rattle.gapcode.proofs.GammaLemmas.{IsLog2, gamma_parts, log2-only}
use Rattle.std.proofs.lemmas.List.{append-nil, length-append}
use Rattle.gapcode.specs.Bits.{digits, bits_of, gamma}
use Rattle.gapcode.proofs.DigitsLemmas.{digits-append, digits-above, digits-zero, drop-digits, length-digits}
use Rattle.gapcode.proofs.WordsLemmas.{digits-mod, bits_of-word, bits_of-append, bits_of-drop, length-bits_of}

-- the last k bytes of a word
tail_bits : (k w : ℕ) → k ≤ 8 → bits_of (drop (8 - k) (to_be_bytes w64 w)) ≡ digits (8 * k) w
tail_bits k w le =
    let e : 8 * (8 - k) + 8 * k ≡ 64 = omega arith in
    sym (bits_of-drop (8 - k) (to_be_bytes w64 w)) ∙ ap (drop (8 * (8 - k))) (bits_of-word w) ∙ subst (λ (n : ℕ). drop (8 * (8 - k)) (digits n w) ≡ digits (8 * k) w) e (drop-digits (8 * (8 - k)) (8 * k) w)

pub put_bits : (old : List ℕ) (last used value n : ℕ) → used < 8 → n ≤ 64 → value < 2 ^ n
    → bits_of (old ++ drop (8 - (used + n) / 8) (to_be_bytes w64 ((last * 2 ^ n + value) / 2 ^ ((used + n) % 8)))) ++ digits ((used + n) % 8) ((last * 2 ^ n + value) % 2 ^ ((used + n) % 8))
    ≡ (bits_of old ++ digits used last) ++ digits n value
put_bits old last used value n hu hn hv =
    let v = last * 2 ^ n + value in
    let k = (used + n) / 8 in
    let r = (used + n) % 8 in
    let w = v / 2 ^ r in
    let new = drop (8 - k) (to_be_bytes w64 w) in
    let sum : 8 * k + r ≡ used + n = omega arith in
    let high : v / 2 ^ n ≡ last = shr_high last n value hv in
    let parts : digits (used + n) v ≡ digits used last ++ digits n value = digits-append used n v ∙ ap (λ (q : ℕ). digits used q ++ digits n v) high ∙ ap (λ (t : List Bool). digits used last ++ t) (digits-above n last value) in
    let cut : digits (8 * k + r) v ≡ digits (8 * k) w ++ digits r v = digits-append (8 * k) r v in
    let same : digits (8 * k) w ++ digits r v ≡ digits used last ++ digits n value = sym cut ∙ ap (λ (m : ℕ). digits m v) sum ∙ parts in
    ap (λ (t : List Bool). t ++ digits r (v % 2 ^ r)) (bits_of-append old new ∙ ap (λ (t : List Bool). bits_of old ++ t) (tail_bits k w (omega arith)))
    ∙ ap (λ (t : List Bool). (bits_of old ++ digits (8 * k) w) ++ t) (digits-mod r v)
    ∙ append_assoc (bits_of old) (digits (8 * k) w) (digits r v) ∙ ap (λ (t : List Bool). bits_of old ++ t) same ∙ sym (append_assoc (bits_of old) (digits used last) (digits n value))

-- what is put together fits, and what is cut off is a word
pub cut_small : (last used value n : ℕ) → used < 8 → n ≤ 64 → last < 2 ^ used → value < 2 ^ n → (last * 2 ^ n + value) / 2 ^ ((used + n) % 8) < 2 ^ 64
cut_small last used value n hu hn hl hv =
    let v = last * 2 ^ n + value in
    let k = (used + n) / 8 in
    let r = (used + n) % 8 in
    let sum : n + used ≡ 8 * k + r = omega arith in
    let below : v < 2 ^ n * 2 ^ used = mul-add-lt last (2 ^ n) value (2 ^ used) hl hv in
    let all : v < 2 ^ (8 * k + r) = subst (λ (m : ℕ). v < 2 ^ m) sum (subst (λ (m : ℕ). v < m) (sym (pow-add 2 n used)) below) in
    let cut : v / 2 ^ r < 2 ^ (8 * k) = shr_below v (8 * k) r all in
    let grows : 2 ^ (8 * k) ≤ 2 ^ 64 = pow-le-pow_right {n = 2} (omega arith) {i = 8 * k} {j = 64} (omega arith) in
    omega (arith, cut, grows)

pub joined_bits : (last value n : ℕ) → n ≤ 64 → last < 128 → value < 2 ^ n → bit_or (last * 2 ^ n % 2 ^ 128) value ≡ last * 2 ^ n + value
joined_bits last value n hn hl hv =
    let whole : last * 2 ^ n % 2 ^ 128 ≡ last * 2 ^ n = shl_whole last 7 n 128 hl (omega arith) in
    ap (λ (m : ℕ). bit_or m value) whole ∙ or_shifted last n value hv

pub put_is : (old new bytes : List ℕ) (whole left k r v w : ℕ) (all : List Bool) → new ≡ old ++ drop (8 - k) bytes → bytes ≡ to_be_bytes w64 whole → whole ≡ v → left ≡ w
    → bits_of (old ++ drop (8 - k) (to_be_bytes w64 v)) ++ digits r w ≡ all → bits_of new ++ digits r left ≡ all
put_is old new bytes whole left k r v w all e b f g h =
    ap (λ (t : List ℕ). bits_of t ++ digits r left) (e ∙ ap (λ (t : List ℕ). old ++ drop (8 - k) t) (b ∙ ap (to_be_bytes w64) f)) ∙ ap (λ (m : ℕ). bits_of (old ++ drop (8 - k) (to_be_bytes w64 v)) ++ digits r m) g ∙ h

-- a code in two parts
pub gamma_split : (x z : ℕ) → 0 < x → x < 2 ^ 64 → z ≡ 63 - count_leading_zeros 64 x → (gamma x ≡ digits z 0 ++ digits (z + 1) x) × (x < 2 ^ (z + 1)) × (z < 64)
gamma_split x z pos lt e =
    let t = leading_top 64 x pos lt in
    let j : t.0 ≡ z = omega (arith, t.1, e) in
    let k : suc z ≡ z + 1 = omega arith in
    let is : IsLog2 z x = record { low = subst (λ (m : ℕ). 2 ^ m ≤ x) j t.2; high = subst (λ (m : ℕ). x < 2 ^ suc m) j t.3 } in
    let below : z < 64 = omega (arith, t.1, e) in
    (gamma_parts z x (log2-only z x below is) ∙ ap (λ (s : List Bool). s ++ digits (z + 1) x) (sym (digits-zero z)), subst (λ (m : ℕ). x < 2 ^ m) k is.high, below)

-- ---- the last byte

-- the bits of a byte that is not full yet, with zero bits behind them
padded_byte : (last used p : ℕ) → used + p ≡ 8 → digits 8 (last * 2 ^ p) ≡ digits used last ++ replicate p false
padded_byte last used p e =
    let whole : last * 2 ^ p + 0 ≡ last * 2 ^ p = omega arith in
    let high : last * 2 ^ p / 2 ^ p ≡ last = ap (λ (k : ℕ). k / 2 ^ p) (sym whole) ∙ shr_high last p 0 (pow_pos p) in
    let low : digits p (last * 2 ^ p) ≡ replicate p false = ap (digits p) (sym whole) ∙ digits-above p last 0 ∙ digits-zero p in
    let parts : digits (used + p) (last * 2 ^ p) ≡ digits used last ++ replicate p false =
    digits-append used p (last * 2 ^ p) ∙ ap (λ (k : ℕ). digits used k ++ digits p (last * 2 ^ p)) high ∙ ap (λ (t : List Bool). digits used last ++ t) low in
    ap (λ (k : ℕ). digits k (last * 2 ^ p)) (sym e) ∙ parts

pub finished : (full : List ℕ) (last used : ℕ) → used < 8 → bits_of (full ++ (last * 2 ^ (8 - used) % 2 ^ 8) ∷ []) ≡ (bits_of full ++ digits used last) ++ replicate (8 - used) false
finished full last used lt =
    let p = 8 - used in
    let e : used + p ≡ 8 = omega arith in
    let byte : bits_of ((last * 2 ^ p % 2 ^ 8) ∷ []) ≡ digits used last ++ replicate p false =
    append-nil (digits 8 (last * 2 ^ p % 2 ^ 8)) ∙ digits-mod 8 (last * 2 ^ p) ∙ padded_byte last used p e in
    bits_of-append full ((last * 2 ^ p % 2 ^ 8) ∷ []) ∙ ap (λ (t : List Bool). bits_of full ++ t) byte ∙ sym (append_assoc (bits_of full) (digits used last) (replicate p false))

pub length-written : (full : List ℕ) (last used : ℕ) → length (bits_of full ++ digits used last) ≡ 8 * length full + used
length-written full last used = length-append (bits_of full) (digits used last) ∙ omega (arith, length-bits_of full, length-digits used last)
