-- Zero bits in front, and gamma codes.
use Rattle.std.proofs.Common.{◌≡◌, ℕ, zero, suc, ◌+◌, ◌-◌, ◌*◌, ◌/◌, ◌^◌, ◌<◌, ◌≤◌, Bool, true, false, List, [], ◌∷◌, ◌++◌, length, take, drop, Result, Ok, Err, refl, sym, ap, subst, ◌∙◌, append_assoc, arith, inl, inr}
use Rattle.std.specs.Prelude.{replicate, ◌⊎◌, ◌↔◌, IfOk}
use Rattle.std.proofs.Math.Nat.{pow-suc, suc-add, zero-add, div-eq_of_lt, div-eq_of_lt-le, pow-le-pow_right}
use Rattle.std.proofs.Math.Numerals.{suc-eq-add-one}
use Rattle.std.proofs.lemmas.Nat.{pow_pos, shr_below, leading_top}
use Rattle.std.proofs.lemmas.Bool.{cases_lt, cases_eq, le-leb, lt-leb, le-ltb, lt-ltb}
use Rattle.std.proofs.lemmas.List.{take_at, drop_at, length-append, length-replicate, length-take, length-drop, take-append-drop, append-nil, drop-append-le, take-append-le, drop-take, take-take, drop-drop}
use Rattle.std.specs.Int.Count.{count_leading_zeros}
use Rattle.gapcode.specs.declared.error.CodeError.{CodeError}
use Rattle.gapcode.specs.declared.error.CodeError.TheVariants.{Ended, TooLong}
use Rattle.gapcode.specs.Bits.{digits, number_of, log2_below, log2, gamma, zeros, gamma_at, Place, rest, with_rest}
use Rattle.gapcode.proofs.DigitsLemmas.{length-digits, digits-zero, number_of-below, digits-number_of, drop-digits, take-digits, number_of-small}

-- ---- zero bits in front

pub zeros-replicate : (n : ℕ) (bits : List Bool) → zeros (replicate n false ++ bits) ≡ n + zeros bits
unfolding zeros
zeros-replicate zero bits = omega arith
zeros-replicate (suc n) bits = ap suc (zeros-replicate n bits) ∙ omega arith

pub zeros-padded : (bits : List Bool) (n : ℕ) → ((zeros bits < length bits) × (zeros (bits ++ replicate n false) ≡ zeros bits)) ⊎ ((zeros bits ≡ length bits) × (zeros (bits ++ replicate n false) ≡ length bits + n))
unfolding zeros
zeros-padded [] n = inr (refl, ap zeros (sym (append-nil (replicate n false))) ∙ zeros-replicate n [] ∙ omega arith)
zeros-padded (true ∷ bits) n = inl (omega arith, refl)
zeros-padded (false ∷ bits) n =
    elim (zeros-padded bits n) [
      | inl h ↦ inl (omega (arith, h.0), ap suc h.1)
      | inr h ↦ inr (ap suc h.0, ap suc h.1 ∙ omega arith)
    ]

pub zeros-digits : (z j x : ℕ) (more : List Bool) → 2 ^ j ≤ x → x < 2 ^ suc j → zeros (digits (z + suc j) x ++ more) ≡ z
unfolding zeros digits
zeros-digits zero j x more low high =
    let one : x / 2 ^ j ≡ 1 = div-eq_of_lt-le {k = 1} (2 ^ j) {m = x} (omega (arith, low)) (omega (arith, pow-suc 2 j, high)) in
    rw (zero-add (suc j), one) refl
zeros-digits (suc z) j x more low high =
    let grows : 2 ^ suc j ≤ 2 ^ (z + suc j) = pow-le-pow_right {n = 2} (omega arith) {i = suc j} {j = z + suc j} (omega arith) in
    let none : x / 2 ^ (z + suc j) ≡ 0 = div-eq_of_lt (omega arith) in
    rw (suc-add z (suc j), none) (ap suc (zeros-digits z j x more low high))

-- ---- the logarithm

pub record IsLog2 (k x : ℕ) : Type 0 where
  pub low : 2 ^ k ≤ x
  pub high : x < 2 ^ suc k

pub log2_below-is : (n x : ℕ) → 0 < x → x < 2 ^ n → IsLog2 (log2_below n x) x × (log2_below n x < n)
unfolding log2_below
log2_below-is zero x pos lt = absurd (omega arith)
log2_below-is (suc n) x pos lt =
    elim (cases_lt x (2 ^ n)) [
      | inl small ↦ let h = log2_below-is n x pos small in rw (lt-leb (2 ^ n) x small) (h.0, omega (arith, h.1))
      | inr large ↦ rw (le-leb (2 ^ n) x large) (record { low = large; high = lt }, omega arith)
    ]

pub log2_below-only : (n k x : ℕ) → k < n → IsLog2 k x → log2_below n x ≡ k
unfolding log2_below
log2_below-only zero k x lt h = absurd (omega arith)
log2_below-only (suc n) k x lt h =
    elim (cases_eq k n) [
      | inl e ↦ rw (le-leb (2 ^ n) x (subst (λ (m : ℕ). 2 ^ m ≤ x) e h.low)) (sym e)
      | inr other ↦
          let below : suc k ≤ n = omega (arith, other) in
          let grows : 2 ^ suc k ≤ 2 ^ n = pow-le-pow_right {n = 2} (omega arith) {i = suc k} {j = n} below in
          rw (lt-leb (2 ^ n) x (omega (arith, h.high))) (log2_below-only n k x (omega arith) h)
    ]

-- ---- a window of 64 bits

-- w has the next 64 of the bits, and zero bits past their end
pub record IsWindow (w : ℕ) (bits : List Bool) : Type 0 where
  pub below : w < 2 ^ 64
  pub digits : digits 64 w ≡ take 64 (bits ++ replicate 64 false)

whole : (w : ℕ) (bits : List Bool) → IsWindow w bits → bits ++ replicate 64 false ≡ digits 64 w ++ drop 64 (bits ++ replicate 64 false)
whole w bits h = sym (take-append-drop 64 (bits ++ replicate 64 false)) ∙ ap (λ (t : List Bool). t ++ drop 64 (bits ++ replicate 64 false)) (sym h.digits)

-- the zero bits in front of bits whose window is not 0
pub window_zeros : (w : ℕ) (bits : List Bool) → IsWindow w bits → 0 < w → (zeros bits ≡ count_leading_zeros 64 w) × (count_leading_zeros 64 w < 64) × (zeros bits < length bits) × (w < 2 ^ (64 - count_leading_zeros 64 w))
window_zeros w bits h pos =
    let t = leading_top 64 w pos h.below in
    let z = count_leading_zeros 64 w in
    let e : z + suc t.0 ≡ 64 = t.1 in
    let all : zeros (bits ++ replicate 64 false) ≡ z = ap zeros (whole w bits h) ∙ subst (λ (n : ℕ). zeros (digits n w ++ drop 64 (bits ++ replicate 64 false)) ≡ z) e (zeros-digits z t.0 w (drop 64 (bits ++ replicate 64 false)) t.2 t.3) in
    let high : 64 - z ≡ suc t.0 = omega (arith, e) in
    elim (zeros-padded bits 64) [
      | inl p ↦ (sym p.1 ∙ all, omega (arith, e), p.0, rw high t.3)
      | inr p ↦ absurd (omega (arith, p.1, all, e))
    ]

-- bits whose window is 0
pub window_none : (bits : List Bool) → IsWindow 0 bits → ((64 ≤ zeros bits) × (64 ≤ length bits)) ⊎ ((zeros bits ≡ length bits) × (length bits < 64))
window_none bits h =
    let front : bits ++ replicate 64 false ≡ replicate 64 false ++ drop 64 (bits ++ replicate 64 false) = whole 0 bits h ∙ ap (λ (t : List Bool). t ++ drop 64 (bits ++ replicate 64 false)) (digits-zero 64) in
    let all : zeros (bits ++ replicate 64 false) ≡ 64 + zeros (drop 64 (bits ++ replicate 64 false)) = ap zeros front ∙ zeros-replicate 64 (drop 64 (bits ++ replicate 64 false)) in
    elim (zeros-padded bits 64) [
      | inl p ↦ inl (omega (arith, p.1, all), omega (arith, p.0, p.1, all))
      | inr p ↦ elim (cases_lt (length bits) 64) [
        | inl lt ↦ inr (p.0, lt)
        | inr le ↦ inl (omega (arith, p.0), le)
      ]
    ]

-- n bits from place a of bits that have them, out of a window
pub window_part : (w : ℕ) (bits : List Bool) (a n b : ℕ) → IsWindow w bits → a + n + b ≡ 64 → a + n ≤ length bits → take n (drop a bits) ≡ digits n (w / 2 ^ b)
window_part w bits a n b h e long =
    let all = bits ++ replicate 64 false in
    let one : take n (drop a bits) ≡ take n (drop a all) = sym (ap (take n) (drop-append-le a bits (replicate 64 false) (omega arith)) ∙ take-append-le n (drop a bits) (replicate 64 false) (omega (arith, length-drop a bits))) in
    let e2 : a + (n + b) ≡ 64 = omega arith in
    let two : drop a (take 64 all) ≡ take (n + b) (drop a all) = subst (λ (m : ℕ). drop a (take m all) ≡ take (n + b) (drop a all)) e2 (drop-take a (n + b) all) in
    let three : take n (take (n + b) (drop a all)) ≡ take n (drop a all) = take-take n (n + b) (drop a all) (omega arith) in
    let four : drop a (digits 64 w) ≡ digits (n + b) w = subst (λ (m : ℕ). drop a (digits m w) ≡ digits (n + b) w) e2 (drop-digits a (n + b) w) in
    one ∙ sym three ∙ ap (take n) (sym two ∙ ap (drop a) (sym h.digits) ∙ four) ∙ take-digits n b w

pub window_number : (w : ℕ) (bits : List Bool) (a n b : ℕ) → IsWindow w bits → a + n + b ≡ 64 → a + n ≤ length bits → w < 2 ^ (n + b) → number_of (take n (drop a bits)) ≡ w / 2 ^ b
window_number w bits a n b h e long small =
    ap number_of (window_part w bits a n b h e long) ∙ number_of-small n (w / 2 ^ b) (shr_below w n b small)

-- ---- what comes next

pub ended : (bits : List Bool) → zeros bits < 64 → length bits < 2 * zeros bits + 1 → gamma_at bits ≡ Err Ended
unfolding gamma_at
ended bits few short = rw (lt-leb 64 (zeros bits) few, lt-ltb (length bits) (2 * zeros bits + 1) short) refl

pub too_long : (bits : List Bool) → 64 ≤ zeros bits → gamma_at bits ≡ Err TooLong
unfolding gamma_at
too_long bits many = rw (le-leb 64 (zeros bits) many) refl

pub found : (bits : List Bool) → zeros bits < 64 → 2 * zeros bits + 1 ≤ length bits → gamma_at bits ≡ Ok (number_of (take (zeros bits + 1) (drop (zeros bits) bits)), drop (2 * zeros bits + 1) bits)
unfolding gamma_at
found bits few long = rw (lt-leb 64 (zeros bits) few, le-ltb (length bits) (2 * zeros bits + 1) long) refl

window_at_zero : (w : ℕ) → w < 2 ^ 64 → count_leading_zeros 64 w ≡ 64 → w ≡ 0
window_at_zero zero lt e = refl
window_at_zero (suc w) lt e = let t = leading_top 64 (suc w) (omega arith) lt in absurd (omega (arith, t.1))

pub next_ended : (w : ℕ) (bits : List Bool) → IsWindow w bits → count_leading_zeros 64 w ≡ 64 → length bits < 64 → gamma_at bits ≡ Err Ended
next_ended w bits h none short =
    elim (window_none bits (subst (λ (v : ℕ). IsWindow v bits) (window_at_zero w h.below none) h)) [
      | inl p ↦ absurd (omega (arith, p.1))
      | inr p ↦ ended bits (omega (arith, p.0)) (omega (arith, p.0))
    ]

pub next_too_long : (w : ℕ) (bits : List Bool) → IsWindow w bits → count_leading_zeros 64 w ≡ 64 → 64 ≤ length bits → gamma_at bits ≡ Err TooLong
next_too_long w bits h none long =
    elim (window_none bits (subst (λ (v : ℕ). IsWindow v bits) (window_at_zero w h.below none) h)) [
      | inl p ↦ too_long bits p.0
      | inr p ↦ absurd (omega (arith, p.1))
    ]

window_pos : (w : ℕ) → (count_leading_zeros 64 w ≡ 64 → ⊥) → 0 < w
unfolding count_leading_zeros
window_pos zero other = absurd (other refl)
window_pos (suc w) other = omega arith

pub next_short : (w : ℕ) (bits : List Bool) → IsWindow w bits → (count_leading_zeros 64 w ≡ 64 → ⊥) → length bits < 2 * count_leading_zeros 64 w + 1 → gamma_at bits ≡ Err Ended
next_short w bits h some short =
    let p = window_zeros w bits h (window_pos w some) in
    ended bits (omega (arith, p.0, p.1)) (omega (arith, p.0))

pub next_near : (w : ℕ) (bits : List Bool) → IsWindow w bits → (count_leading_zeros 64 w ≡ 64 → ⊥) → 2 * count_leading_zeros 64 w + 1 ≤ length bits → count_leading_zeros 64 w < 32
    → gamma_at bits ≡ Ok (w / 2 ^ (63 - 2 * count_leading_zeros 64 w), drop (2 * count_leading_zeros 64 w + 1) bits)
next_near w bits h some long near =
    let z = count_leading_zeros 64 w in
    let p = window_zeros w bits h (window_pos w some) in
    let e : 64 - z ≡ (z + 1) + (63 - 2 * z) = omega arith in
    let small : w < 2 ^ ((z + 1) + (63 - 2 * z)) = subst (λ (k : ℕ). w < 2 ^ k) e p.3 in
    let n = window_number w bits z (z + 1) (63 - 2 * z) h (omega arith) (omega arith) small in
    let f = found bits (omega (arith, p.0)) (omega (arith, p.0)) in
    f ∙ rw (p.0) (ap (λ (k : ℕ). Ok (k, drop (2 * z + 1) bits)) n)

pub next_far : (w v : ℕ) (bits : List Bool) → IsWindow w bits → (count_leading_zeros 64 w ≡ 64 → ⊥) → 2 * count_leading_zeros 64 w + 1 ≤ length bits → IsWindow v (drop (count_leading_zeros 64 w) bits)
    → gamma_at bits ≡ Ok (v / 2 ^ (63 - count_leading_zeros 64 w), drop (2 * count_leading_zeros 64 w + 1) bits)
next_far w v bits h some long g =
    let z = count_leading_zeros 64 w in
    let p = window_zeros w bits h (window_pos w some) in
    let lt : z < 64 = p.1 in
    let e : 64 ≡ (z + 1) + (63 - z) = omega arith in
    let small : v < 2 ^ ((z + 1) + (63 - z)) = subst (λ (k : ℕ). v < 2 ^ k) e g.below in
    let n = window_number v (drop z bits) 0 (z + 1) (63 - z) g (omega arith) (omega (arith, length-drop z bits)) small in
    let f = found bits (omega (arith, p.0)) (omega (arith, p.0)) in
    f ∙ rw (p.0) (ap (λ (k : ℕ). Ok (k, drop (2 * z + 1) bits)) n)

-- ---- the laws of one code

pub zeros-split : (bits : List Bool) → zeros bits < length bits → (more : List Bool) × (bits ≡ replicate (zeros bits) false ++ true ∷ more)
unfolding zeros
zeros-split [] lt = absurd (omega arith)
zeros-split (true ∷ bits) lt = (bits, refl)
zeros-split (false ∷ bits) lt = let h = zeros-split bits (omega arith) in (h.0, ap (λ (t : List Bool). false ∷ t) h.1)

pub log2-is : (x : ℕ) → 0 < x → x < 2 ^ 64 → IsLog2 (log2 x) x × (log2 x < 64)
log2-is x pos lt = log2_below-is 64 x pos lt

pub log2-only : (k x : ℕ) → k < 64 → IsLog2 k x → log2 x ≡ k
log2-only k x lt h = log2_below-only 64 k x lt h

-- a code, by its parts
pub gamma_parts : (k x : ℕ) → log2 x ≡ k → gamma x ≡ replicate k false ++ digits (k + 1) x
unfolding gamma
gamma_parts k x e = ap (λ (j : ℕ). replicate j false ++ digits (j + 1) x) e

pub gamma_again : (x : ℕ) (rest : List Bool) → 0 < x → x < 2 ^ 64 → gamma_at (gamma x ++ rest) ≡ Ok (x, rest)
gamma_again x rest pos lt =
    let h = log2-is x pos lt in
    let k = log2 x in
    let front = replicate k false in
    let body = digits (k + 1) x in
    let bits = front ++ (body ++ rest) in
    let regrouped : gamma x ++ rest ≡ bits = ap (λ (t : List Bool). t ++ rest) (gamma_parts k x refl) ∙ append_assoc front body rest in
    let front_len = length-replicate k false in
    let body_len = length-digits (k + 1) x in
    let e : k + 1 ≡ 0 + suc k = omega arith in
    let none : zeros (body ++ rest) ≡ 0 = subst (λ (n : ℕ). zeros (digits n x ++ rest) ≡ 0) (sym e) (zeros-digits 0 k x rest h.0.low h.0.high) in
    let z : zeros bits ≡ k = zeros-replicate k (body ++ rest) ∙ omega (arith, none) in
    let len : length bits ≡ k + (k + 1 + length rest) = length-append front (body ++ rest) ∙ omega (arith, front_len, length-append body rest, body_len) in
    let f = found bits (omega (arith, z, h.1)) (omega (arith, z, len)) in
    let dropped : drop k bits ≡ body ++ rest = drop_at front (body ++ rest) k front_len in
    let taken : take (k + 1) (drop k bits) ≡ body = ap (take (k + 1)) dropped ∙ take_at body rest (k + 1) body_len in
    let number : number_of (take (k + 1) (drop k bits)) ≡ x = ap number_of taken ∙ number_of-small (k + 1) x (subst (λ (n : ℕ). x < 2 ^ n) (suc-eq-add-one k) h.0.high) in
    let both : 2 * k + 1 ≡ k + (k + 1) = omega arith in
    let after : drop (2 * k + 1) bits ≡ rest = ap (λ (n : ℕ). drop n bits) both ∙ sym (drop-drop (k + 1) k bits) ∙ ap (drop (k + 1)) dropped ∙ drop_at body rest (k + 1) body_len in
    ap gamma_at regrouped ∙ f ∙ rw (z, number, after) refl

abbrev done : {A : Type 0} → A → Result A CodeError
done x = Ok x

pub ok_is : {A : Type 0} (x y : A) → done x ≡ done y → x ≡ y
ok_is x y e = cc

ok_pair : (a x : ℕ) (b y : List Bool) (r : Result (ℕ × List Bool) CodeError) → r ≡ Ok (a, b) → r ≡ Ok (x, y) → (x ≡ a) × (y ≡ b)
ok_pair a x b y r e f =
    let p : ℕ × List Bool = (x, y) in
    let q : ℕ × List Bool = (a, b) in
    let h = ok_is p q (sym f ∙ e) in
    (ap (λ (t : ℕ × List Bool). t.0) h, ap (λ (t : ℕ × List Bool). t.1) h)

-- the first bit after the zero bits is the highest of the number
lead : (bits : List Bool) → 2 * zeros bits + 1 ≤ length bits → IsLog2 (zeros bits) (number_of (take (zeros bits + 1) (drop (zeros bits) bits)))
unfolding number_of
lead bits long =
    let z = zeros bits in
    let p = zeros-split bits (omega arith) in
    let more = p.0 in
    let dropped : drop z bits ≡ true ∷ more = ap (drop z) p.1 ∙ drop_at (replicate z false) (true ∷ more) z (length-replicate z false) in
    let k : z + 1 ≡ suc z = omega arith in
    let body : take (z + 1) (drop z bits) ≡ true ∷ take z more = ap (take (z + 1)) dropped ∙ ap (λ (n : ℕ). take n (true ∷ more)) k in
    let len : length more + 1 ≡ length (drop z bits) = omega (arith, ap length dropped) in
    let long_more : length (take z more) ≡ z = omega (arith, length-take z more, length-drop z bits, len) in
    let number : number_of (take (z + 1) (drop z bits)) ≡ 2 ^ z + number_of (take z more) = ap number_of body ∙ ap (λ (n : ℕ). 2 ^ n + number_of (take z more)) long_more in
    let small : number_of (take z more) < 2 ^ z = subst (λ (n : ℕ). number_of (take z more) < 2 ^ n) long_more (number_of-below (take z more)) in
    record { low = omega (arith, number); high = omega (arith, number, small, pow-suc 2 z) }

taken : (bits : List Bool) → zeros bits < 64 → 2 * zeros bits + 1 ≤ length bits
    → let x = number_of (take (zeros bits + 1) (drop (zeros bits) bits)) in (bits ≡ gamma x ++ drop (2 * zeros bits + 1) bits) × (0 < x) × (x < 2 ^ 64)
taken bits few long =
    let z = zeros bits in
    let body = take (z + 1) (drop z bits) in
    let x = number_of body in
    let after = drop (2 * z + 1) bits in
    let h = lead bits long in
    let p = zeros-split bits (omega arith) in
    let front : take z bits ≡ replicate z false = ap (take z) p.1 ∙ take_at (replicate z false) (true ∷ p.0) z (length-replicate z false) in
    let len : length body ≡ z + 1 = omega (arith, length-take (z + 1) (drop z bits), length-drop z bits) in
    let same : digits (z + 1) x ≡ body = subst (λ (n : ℕ). digits n x ≡ body) len (digits-number_of body) in
    let code : gamma x ≡ replicate z false ++ body = gamma_parts z x (log2-only z x few h) ∙ ap (λ (t : List Bool). replicate z false ++ t) same in
    let both : z + (z + 1) ≡ 2 * z + 1 = omega arith in
    let end : drop (z + 1) (drop z bits) ≡ after = drop-drop (z + 1) z bits ∙ ap (λ (n : ℕ). drop n bits) both in
    let second : drop z bits ≡ body ++ after = sym (take-append-drop (z + 1) (drop z bits)) ∙ ap (λ (t : List Bool). body ++ t) end in
    let all : bits ≡ replicate z false ++ (body ++ after) = sym (take-append-drop z bits) ∙ ap (λ (t : List Bool). t ++ drop z bits) front ∙ ap (λ (t : List Bool). replicate z false ++ t) second in
    let grows : 2 ^ suc z ≤ 2 ^ 64 = pow-le-pow_right {n = 2} (omega arith) {i = suc z} {j = 64} (omega arith) in
    (all ∙ sym (append_assoc (replicate z false) body after) ∙ ap (λ (t : List Bool). t ++ after) (sym code), omega (arith, h.low, pow_pos z), omega (arith, h.high))

-- what was read is the code of the number, and the number is one that has a code
pub gamma_takes : (bits : List Bool) (x : ℕ) (rest : List Bool) → gamma_at bits ≡ Ok (x, rest) → (bits ≡ gamma x ++ rest) × (0 < x) × (x < 2 ^ 64)
gamma_takes bits x rest e =
    elim (cases_lt (zeros bits) 64) [
      | inr many ↦ absurd (let f = too_long bits many in cc)
      | inl few ↦ elim (cases_lt (length bits) (2 * zeros bits + 1)) [
        | inl short ↦ absurd (let f = ended bits few short in cc)
        | inr long ↦
            let same = ok_pair (number_of (take (zeros bits + 1) (drop (zeros bits) bits))) x (drop (2 * zeros bits + 1) bits) rest (gamma_at bits) (found bits few long) e in
            rw (same.0, same.1) (taken bits few long)
      ]
    ]

-- ---- the clauses of get_gamma

pub gamma_found : (r : Result ℕ CodeError) (bits more : List Bool) → with_rest r more ≡ gamma_at bits → IfOk r (λ x. bits ≡ gamma x ++ more)
gamma_found (Err e) bits more h = tt
gamma_found (Ok x) bits more h = (gamma_takes bits x more (sym h)).0

pub gamma_number : (r : Result ℕ CodeError) (bits more : List Bool) → with_rest r more ≡ gamma_at bits → IfOk r (λ x. (0 < x) × (x < 2 ^ 64))
gamma_number (Err e) bits more h = tt
gamma_number (Ok x) bits more h = let t = gamma_takes bits x more (sym h) in (t.1, t.2)

-- the reader moved by the length of the code
pub gamma_moved : (r : Result ℕ CodeError) (old new : Place) → with_rest r (rest new) ≡ gamma_at (rest old) → new.bits ≡ old.bits → old.position ≤ length old.bits → new.position ≤ length new.bits
    → IfOk r (λ x. new.position ≡ old.position + length (gamma x))
gamma_moved (Err e) old new h same from inside = tt
gamma_moved (Ok x) old new h same from inside =
    let taken : rest old ≡ gamma x ++ rest new = gamma_found (Ok x) (rest old) (rest new) h in
    omega (arith, ap length taken, length-append (gamma x) (rest new), length-drop old.position old.bits, length-drop new.position new.bits, ap length same)

pub gamma_only : (r : Result ℕ CodeError) (bits more : List Bool) → with_rest r more ≡ gamma_at bits → (x : ℕ) (rest : List Bool) → 0 < x → x < 2 ^ 64 → bits ≡ gamma x ++ rest → r ≡ Ok x
gamma_only r bits more h x rest pos lt e = number r (h ∙ ap gamma_at e ∙ gamma_again x rest pos lt)
  where
    number : (r : Result ℕ CodeError) → with_rest r more ≡ Ok (x, rest) → r ≡ Ok x
    number (Err d) h = absurd cc
    number (Ok y) h =
        let p : ℕ × List Bool = (y, more) in
        let q : ℕ × List Bool = (x, rest) in
        ap (λ (t : ℕ × List Bool). Ok t.0) (ok_is p q h)

leading : (bits : List Bool) (n : ℕ) → n ≤ zeros bits → take n bits ≡ replicate n false
unfolding zeros
leading bits zero le = refl
leading [] (suc n) le = absurd (omega arith)
leading (true ∷ bits) (suc n) le = absurd (omega arith)
leading (false ∷ bits) (suc n) le = ap (λ (t : List Bool). false ∷ t) (leading bits n (omega arith))

pub gamma_too_long : (r : Result ℕ CodeError) (bits more : List Bool) → with_rest r more ≡ gamma_at bits → (r ≡ Err TooLong) ↔ (take 64 bits ≡ replicate 64 false)
gamma_too_long r bits more h = (forth, back)
  where
    err_is : (r : Result ℕ CodeError) (d : CodeError) → with_rest r more ≡ Err d → r ≡ Err d
    err_is (Ok x) d e = absurd cc
    err_is (Err x) d e = let k : x ≡ d = cc in ap (λ (t : CodeError). Err t) k

    forth : r ≡ Err TooLong → take 64 bits ≡ replicate 64 false
    forth e = elim (cases_lt (zeros bits) 64) [
      | inr many ↦ leading bits 64 many
      | inl few ↦ elim (cases_lt (length bits) (2 * zeros bits + 1)) [
        | inl short ↦ absurd (let f = sym (ap (λ (t : Result ℕ CodeError). with_rest t more) e) ∙ h ∙ ended bits few short in cc)
        | inr long ↦ absurd (let f = sym (ap (λ (t : Result ℕ CodeError). with_rest t more) e) ∙ h ∙ found bits few long in cc)
      ]
    ]

    back : take 64 bits ≡ replicate 64 false → r ≡ Err TooLong
    back e =
        let parts : bits ≡ replicate 64 false ++ drop 64 bits = sym (take-append-drop 64 bits) ∙ ap (λ (t : List Bool). t ++ drop 64 bits) e in
        let z : zeros bits ≡ 64 + zeros (drop 64 bits) = ap zeros parts ∙ zeros-replicate 64 (drop 64 bits) in
        err_is r TooLong (h ∙ too_long bits (omega (arith, z)))

-- no code begins another
pub one_code : (x y : ℕ) (more others : List Bool) → 0 < x → x < 2 ^ 64 → 0 < y → y < 2 ^ 64 → gamma x ++ more ≡ gamma y ++ others → x ≡ y
one_code x y more others px lx py ly e =
    let p : ℕ × List Bool = (x, more) in
    let q : ℕ × List Bool = (y, others) in
    ap (λ (t : ℕ × List Bool). t.0) (ok_is p q (sym (gamma_again x more px lx) ∙ ap gamma_at e ∙ gamma_again y others py ly))
