-- Laws of binary digits.
use Rattle.std.proofs.Common.{◌≡◌, ℕ, zero, suc, ◌+◌, ◌*◌, ◌/◌, ◌%◌, ◌^◌, ◌<◌, Bool, true, false, cond, eqb, List, [], ◌∷◌, ◌++◌, length, take, drop, refl, ap, subst, ◌∙◌, arith}
use Rattle.std.specs.Prelude.{replicate}
use Rattle.std.proofs.Math.Nat.{pow-suc, add-mul-div_right, add-mul-mod_self_right, add_comm, mul_assoc, zero-div, zero-add, suc-add, div-eq_of_lt, add-div_left, mod-eq_of_lt, mul_comm}
use Rattle.std.proofs.lemmas.Nat.{pow_pos, shr-shr, mod-pow-add}
use Rattle.std.proofs.lemmas.List.{take_at, drop_at}
use Rattle.gapcode.specs.Bits.{digits, number_of}

pub length-digits : (w x : ℕ) → length (digits w x) ≡ w
unfolding digits
length-digits zero x = refl
length-digits (suc w) x = ap suc (length-digits w x)

pub digits-append : (a b x : ℕ) → digits (a + b) x ≡ digits a (x / 2 ^ b) ++ digits b x
unfolding digits
digits-append zero b x = rw (zero-add b) refl
digits-append (suc a) b x =
    let head : x / 2 ^ b / 2 ^ a ≡ x / 2 ^ (a + b) = shr-shr x b a ∙ ap (λ (k : ℕ). x / 2 ^ k) (add_comm b a) in
    rw (suc-add a b, digits-append a b x, ← head) refl

-- what stands above the last w digits does not matter
pub digits-above : (w a r : ℕ) → digits w (a * 2 ^ w + r) ≡ digits w r
unfolding digits
digits-above zero a r = refl
digits-above (suc w) a r =
    let whole : a * 2 ^ suc w + r ≡ r + (a * 2) * 2 ^ w = rw (pow-suc 2 w) (omega (arith, mul_assoc a 2 (2 ^ w), ap (λ k. a * k) (mul_comm (2 ^ w) 2))) in
    let other : a * 2 ^ suc w + r ≡ (a * 2) * 2 ^ w + r = omega (arith, whole) in
    let quotient : (a * 2 ^ suc w + r) / 2 ^ w ≡ r / 2 ^ w + a * 2 = ap (λ k. k / 2 ^ w) whole ∙ add-mul-div_right r (a * 2) (pow_pos w) in
    let bit : (a * 2 ^ suc w + r) / 2 ^ w % 2 ≡ r / 2 ^ w % 2 = ap (λ k. k % 2) quotient ∙ add-mul-mod_self_right (r / 2 ^ w) a 2 in
    let tail : digits w (a * 2 ^ suc w + r) ≡ digits w r = ap (digits w) other ∙ digits-above w (a * 2) r in
    rw (bit, tail) refl

pub digits-zero : (w : ℕ) → digits w 0 ≡ replicate w false
unfolding digits
digits-zero zero = refl
digits-zero (suc w) = rw (zero-div (2 ^ w), digits-zero w) refl

pub number_of-digits : (w x : ℕ) → number_of (digits w x) ≡ x % 2 ^ w
unfolding digits number_of
number_of-digits zero x = omega arith
number_of-digits (suc w) x =
    let e : x % 2 ^ (1 + w) ≡ (x / 2 ^ w % 2 ^ 1) * 2 ^ w + x % 2 ^ w = mod-pow-add x 1 w in
    let s : 1 + w ≡ suc w = omega arith in
    let e2 : x % 2 ^ suc w ≡ (x / 2 ^ w % 2) * 2 ^ w + x % 2 ^ w = subst (λ (k : ℕ). x % 2 ^ k ≡ (x / 2 ^ w % 2) * 2 ^ w + x % 2 ^ w) s e in
    rw (length-digits w x, number_of-digits w x) (one_or_zero (x / 2 ^ w % 2) (2 ^ w) (x % 2 ^ w) (x % 2 ^ suc w) (omega arith) e2)
  where
    one_or_zero : (b p r n : ℕ) → b < 2 → n ≡ b * p + r → cond (eqb b 1) p 0 + r ≡ n
    one_or_zero zero p r n lt e = omega arith
    one_or_zero (suc zero) p r n lt e = omega arith
    one_or_zero (suc (suc b)) p r n lt e = absurd (omega arith)

pub number_of-below : (bits : List Bool) → number_of bits < 2 ^ length bits
unfolding number_of
number_of-below [] = omega arith
number_of-below (true ∷ bits) = rw (pow-suc 2 (length bits)) (omega (arith, number_of-below bits))
number_of-below (false ∷ bits) = rw (pow-suc 2 (length bits)) (omega (arith, number_of-below bits))

head_digit : (b : Bool) (p n : ℕ) → n < p → eqb ((cond b p 0 + n) / p % 2) 1 ≡ b
head_digit true p n lt =
    let e : (p + n) / p ≡ 1 = add-div_left n (omega arith) ∙ ap (λ k. k + 1) (div-eq_of_lt lt) in
    rw e refl
head_digit false p n lt =
    let e : (0 + n) / p ≡ 0 = ap (λ k. k / p) (zero-add n) ∙ div-eq_of_lt lt in
    rw e refl

tail_digits : (b : Bool) (w n : ℕ) → digits w (cond b (2 ^ w) 0 + n) ≡ digits w n
tail_digits true w n =
    let e : 2 ^ w + n ≡ 1 * 2 ^ w + n = omega arith in
    ap (digits w) e ∙ digits-above w 1 n
tail_digits false w n = ap (digits w) (zero-add n)

pub digits-number_of : (bits : List Bool) → digits (length bits) (number_of bits) ≡ bits
unfolding digits number_of
digits-number_of [] = refl
digits-number_of (b ∷ bits) =
    rw (head_digit b (2 ^ length bits) (number_of bits) (number_of-below bits), tail_digits b (length bits) (number_of bits), digits-number_of bits) refl

pub drop-digits : (a b x : ℕ) → drop a (digits (a + b) x) ≡ digits b x
drop-digits a b x = ap (drop a) (digits-append a b x) ∙ drop_at (digits a (x / 2 ^ b)) (digits b x) a (length-digits a (x / 2 ^ b))

pub take-digits : (a b x : ℕ) → take a (digits (a + b) x) ≡ digits a (x / 2 ^ b)
take-digits a b x = ap (take a) (digits-append a b x) ∙ take_at (digits a (x / 2 ^ b)) (digits b x) a (length-digits a (x / 2 ^ b))

-- the digits of a number that is small enough
pub number_of-small : (w x : ℕ) → x < 2 ^ w → number_of (digits w x) ≡ x
number_of-small w x lt = number_of-digits w x ∙ mod-eq_of_lt lt
