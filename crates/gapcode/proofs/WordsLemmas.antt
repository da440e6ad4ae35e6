-- Bytes as bits, and the words read from them.
use Rattle.std.proofs.Common.{◌≡◌, ℕ, zero, suc, ◌+◌, ◌-◌, ◌*◌, ◌/◌, ◌%◌, ◌^◌, ◌<◌, ◌≤◌, Bool, false, eqb, List, [], ◌∷◌, ◌++◌, length, get_or, take, drop, refl, sym, ap, subst, ◌∙◌, append_assoc, arith}
use Rattle.std.specs.Prelude.{replicate}
use Rattle.std.specs.Int.{w64, to_be_bytes, from_be_bytes}
use Rattle.std.specs.Prelude.{bit_or, bit_and, slice_get, Some, None}
use Rattle.std.proofs.Math.Nat.{add_comm, mul_assoc, add-mul-div_right, mul-mod_left}
use Rattle.std.proofs.Math.Seq.{drop-append-add, drop-nil}
use Rattle.std.proofs.lemmas.Nat.{pow_pos, pow-add, div-add-mod', be_bytes_8, and_mask, or_shifted, mod-pow-add, shr_high, shr_below}
use Rattle.std.proofs.lemmas.List.{append-nil, length-append, replicate-append-replicate, drop-append-le, take-append-le, take-replicate, take-append-drop, drop_more, drop_all, length-drop, length-take, drop-drop}
use Rattle.gapcode.specs.Bits.{digits, bits_of, window_of, Place}
use Rattle.gapcode.proofs.DigitsLemmas.{length-digits, digits-append, digits-above, digits-zero, drop-digits, take-digits}

pub digits-mod : (w x : ℕ) → digits w (x % 2 ^ w) ≡ digits w x
digits-mod w x =
    let e : x / 2 ^ w * 2 ^ w + x % 2 ^ w ≡ x = div-add-mod' x (2 ^ w) in
    sym (digits-above w (x / 2 ^ w) (x % 2 ^ w)) ∙ ap (digits w) e

pub bits_of-word : (n : ℕ) → bits_of (to_be_bytes w64 n) ≡ digits 64 n
bits_of-word n =
    rw (digits-mod 8 (n / 2 ^ 56), digits-mod 8 (n / 2 ^ 48), digits-mod 8 (n / 2 ^ 40), digits-mod 8 (n / 2 ^ 32), digits-mod 8 (n / 2 ^ 24), digits-mod 8 (n / 2 ^ 16), digits-mod 8 (n / 2 ^ 8), digits-mod 8 n)
    (sym (digits-append 8 56 n ∙ ap (λ (t : List Bool). digits 8 (n / 2 ^ 56) ++ t)
    (digits-append 8 48 n ∙ ap (λ (t : List Bool). digits 8 (n / 2 ^ 48) ++ t)
    (digits-append 8 40 n ∙ ap (λ (t : List Bool). digits 8 (n / 2 ^ 40) ++ t)
    (digits-append 8 32 n ∙ ap (λ (t : List Bool). digits 8 (n / 2 ^ 32) ++ t)
    (digits-append 8 24 n ∙ ap (λ (t : List Bool). digits 8 (n / 2 ^ 24) ++ t)
    (digits-append 8 16 n ∙ ap (λ (t : List Bool). digits 8 (n / 2 ^ 16) ++ t)
    (digits-append 8 8 n ∙ ap (λ (t : List Bool). digits 8 (n / 2 ^ 8) ++ t) (sym (append-nil (digits 8 n)))))))))))

pub length-bits_of : (bytes : List ℕ) → length (bits_of bytes) ≡ 8 * length bytes
length-bits_of [] = refl
length-bits_of (b ∷ bytes) = length-append (digits 8 b) (bits_of bytes) ∙ omega (arith, length-digits 8 b, length-bits_of bytes)

-- a reader stands within its bits
pub reader_inside : (bytes : List ℕ) (place : ℕ) (p : Place) → record { bits = bits_of bytes; position = place } ≡ p → place ≤ 8 * length bytes → p.position ≤ length p.bits
reader_inside bytes place p shown within =
    omega (arith, ap (λ (q : Place). q.position) shown, ap (λ (q : Place). length q.bits) shown, length-bits_of bytes, within)

pub bits_of-append : (xs ys : List ℕ) → bits_of (xs ++ ys) ≡ bits_of xs ++ bits_of ys
bits_of-append [] ys = refl
bits_of-append (x ∷ xs) ys = ap (λ (t : List Bool). digits 8 x ++ t) (bits_of-append xs ys) ∙ sym (append_assoc (digits 8 x) (bits_of xs) (bits_of ys))

pub bits_of-zeros : (n : ℕ) → bits_of (replicate n 0) ≡ replicate (8 * n) false
bits_of-zeros zero = refl
bits_of-zeros (suc n) =
    let e : 8 + 8 * n ≡ 8 * suc n = omega arith in
    ap (λ (t : List Bool). digits 8 0 ++ t) (bits_of-zeros n) ∙ ap (λ (t : List Bool). t ++ replicate (8 * n) false) (digits-zero 8) ∙ replicate-append-replicate 8 (8 * n) false ∙ ap (λ (k : ℕ). replicate k false) e

pub bits_of-drop : (i : ℕ) (bytes : List ℕ) → drop (8 * i) (bits_of bytes) ≡ bits_of (drop i bytes)
bits_of-drop zero bytes = refl
bits_of-drop (suc i) [] = drop-nil (8 * suc i)
bits_of-drop (suc i) (b ∷ bytes) =
    let e : 8 * suc i ≡ length (digits 8 b) + 8 * i = omega (arith, length-digits 8 b) in
    ap (λ (k : ℕ). drop k (digits 8 b ++ bits_of bytes)) e ∙ drop-append-add (digits 8 b) (bits_of bytes) (8 * i) ∙ bits_of-drop i bytes

-- how many more zero bits follow does not matter
pub padding_free : (n : ℕ) (bits : List Bool) (k m : ℕ) → n ≤ length bits + k → n ≤ length bits + m → take n (bits ++ replicate k false) ≡ take n (bits ++ replicate m false)
padding_free n [] k m hk hm = take-replicate n k false (omega arith) ∙ sym (take-replicate n m false (omega arith))
padding_free zero (b ∷ bits) k m hk hm = refl
padding_free (suc n) (b ∷ bits) k m hk hm = ap (λ (t : List Bool). b ∷ t) (padding_free n bits k m (omega arith) (omega arith))

abbrev pub IsBytes : List ℕ → Type 0
IsBytes bytes = (i : ℕ) → get_or bytes i 0 < 256

nine_cells : (xs : List ℕ) → length xs ≡ 9 → xs ≡ get_or xs 0 0 ∷ get_or xs 1 0 ∷ get_or xs 2 0 ∷ get_or xs 3 0 ∷ get_or xs 4 0 ∷ get_or xs 5 0 ∷ get_or xs 6 0 ∷ get_or xs 7 0 ∷ get_or xs 8 0 ∷ []
nine_cells xs len =
    drop_more xs 0 0 (omega arith) ∙ ap (λ (t : List ℕ). get_or xs 0 0 ∷ t)
    (drop_more xs 1 0 (omega arith) ∙ ap (λ (t : List ℕ). get_or xs 1 0 ∷ t)
    (drop_more xs 2 0 (omega arith) ∙ ap (λ (t : List ℕ). get_or xs 2 0 ∷ t)
    (drop_more xs 3 0 (omega arith) ∙ ap (λ (t : List ℕ). get_or xs 3 0 ∷ t)
    (drop_more xs 4 0 (omega arith) ∙ ap (λ (t : List ℕ). get_or xs 4 0 ∷ t)
    (drop_more xs 5 0 (omega arith) ∙ ap (λ (t : List ℕ). get_or xs 5 0 ∷ t)
    (drop_more xs 6 0 (omega arith) ∙ ap (λ (t : List ℕ). get_or xs 6 0 ∷ t)
    (drop_more xs 7 0 (omega arith) ∙ ap (λ (t : List ℕ). get_or xs 7 0 ∷ t)
    (drop_more xs 8 0 (omega arith) ∙ ap (λ (t : List ℕ). get_or xs 8 0 ∷ t) (drop_all 9 xs (omega arith))))))))))

-- nine bytes as one number
nine_bits : (xs : List ℕ) (word : ℕ) → length xs ≡ 9 → IsBytes xs
    → word ≡ from_be_bytes w64 (get_or xs 0 0 ∷ get_or xs 1 0 ∷ get_or xs 2 0 ∷ get_or xs 3 0 ∷ get_or xs 4 0 ∷ get_or xs 5 0 ∷ get_or xs 6 0 ∷ get_or xs 7 0 ∷ [])
    → bits_of xs ≡ digits 72 (word * 2 ^ 8 + get_or xs 8 0)
nine_bits xs word len fits e =
    let front = get_or xs 0 0 ∷ get_or xs 1 0 ∷ get_or xs 2 0 ∷ get_or xs 3 0 ∷ get_or xs 4 0 ∷ get_or xs 5 0 ∷ get_or xs 6 0 ∷ get_or xs 7 0 ∷ [] in
    let last = get_or xs 8 0 in
    let small : last < 2 ^ 8 = fits 8 in
    let back : to_be_bytes w64 word ≡ front = be_bytes_8 front word refl (front_fits xs fits) e in
    let front_bits : bits_of front ≡ digits 64 word = ap bits_of (sym back) ∙ bits_of-word word in
    let split : bits_of xs ≡ bits_of (front ++ last ∷ []) = ap bits_of (nine_cells xs len) in
    let high : (word * 2 ^ 8 + last) / 2 ^ 8 ≡ word = shr_high word 8 last small in
    let parts : digits 72 (word * 2 ^ 8 + last) ≡ digits 64 word ++ digits 8 last = digits-append 64 8 (word * 2 ^ 8 + last) ∙ ap (λ (k : ℕ). digits 64 k ++ digits 8 (word * 2 ^ 8 + last)) high ∙ ap (λ (t : List Bool). digits 64 word ++ t) (digits-above 8 word last) in
    split ∙ bits_of-append front (last ∷ []) ∙ ap (λ (t : List Bool). t ++ bits_of (last ∷ [])) front_bits ∙ ap (λ (t : List Bool). digits 64 word ++ t) (append-nil (digits 8 last)) ∙ sym parts
  where
    front_fits : (xs : List ℕ) → IsBytes xs → IsBytes (get_or xs 0 0 ∷ get_or xs 1 0 ∷ get_or xs 2 0 ∷ get_or xs 3 0 ∷ get_or xs 4 0 ∷ get_or xs 5 0 ∷ get_or xs 6 0 ∷ get_or xs 7 0 ∷ [])
    front_fits xs fits zero = fits 0
    front_fits xs fits (suc zero) = fits 1
    front_fits xs fits (suc (suc zero)) = fits 2
    front_fits xs fits (suc (suc (suc zero))) = fits 3
    front_fits xs fits (suc (suc (suc (suc zero)))) = fits 4
    front_fits xs fits (suc (suc (suc (suc (suc zero))))) = fits 5
    front_fits xs fits (suc (suc (suc (suc (suc (suc zero)))))) = fits 6
    front_fits xs fits (suc (suc (suc (suc (suc (suc (suc zero))))))) = fits 7
    front_fits xs fits (suc (suc (suc (suc (suc (suc (suc (suc i)))))))) = omega arith

-- 64 bits of two numbers put together
or_bits : (word last s : ℕ) → s < 8 → last < 2 ^ 8 → digits 64 (bit_or (word * 2 ^ s % 2 ^ 64) (last / 2 ^ (8 - s))) ≡ digits 64 ((word * 2 ^ 8 + last) / 2 ^ (8 - s))
or_bits word last s lt small =
    let q = last / 2 ^ (8 - s) in
    let shifted = word * 2 ^ s in
    let e8 : s + (8 - s) ≡ 8 = omega arith in
    let e64 : (64 - s) + s ≡ 64 = omega arith in
    let q-small : q < 2 ^ s = shr_below last s (8 - s) (subst (λ (k : ℕ). last < 2 ^ k) (sym e8) small) in
    let a = shifted / 2 ^ s % 2 ^ (64 - s) in
    let low : shifted % 2 ^ s ≡ 0 = mul-mod_left word (2 ^ s) in
    let kept : shifted % 2 ^ 64 ≡ a * 2 ^ s = subst (λ (k : ℕ). shifted % 2 ^ k ≡ a * 2 ^ s) e64 (mod-pow-add shifted (64 - s) s ∙ omega (arith, low)) in
    let or_is : bit_or (shifted % 2 ^ 64) q ≡ shifted % 2 ^ 64 + q = ap (λ (k : ℕ). bit_or k q) kept ∙ or_shifted a s q q-small ∙ ap (λ (k : ℕ). k + q) (sym kept) in
    let all : shifted / 2 ^ 64 * 2 ^ 64 + (shifted % 2 ^ 64 + q) ≡ shifted + q = omega (arith, div-add-mod' shifted (2 ^ 64)) in
    let above : digits 64 (shifted % 2 ^ 64 + q) ≡ digits 64 (shifted + q) = sym (digits-above 64 (shifted / 2 ^ 64) (shifted % 2 ^ 64 + q)) ∙ ap (digits 64) all in
    let p : 2 ^ 8 ≡ 2 ^ s * 2 ^ (8 - s) = subst (λ (k : ℕ). 2 ^ k ≡ 2 ^ s * 2 ^ (8 - s)) e8 (pow-add 2 s (8 - s)) in
    let m : word * 2 ^ 8 ≡ shifted * 2 ^ (8 - s) = ap (λ (k : ℕ). word * k) p ∙ sym (mul_assoc word (2 ^ s) (2 ^ (8 - s))) in
    let quotient : (word * 2 ^ 8 + last) / 2 ^ (8 - s) ≡ shifted + q = ap (λ (k : ℕ). (k + last) / 2 ^ (8 - s)) m ∙ ap (λ (k : ℕ). k / 2 ^ (8 - s)) (add_comm (shifted * 2 ^ (8 - s)) last) ∙ add-mul-div_right last shifted (pow_pos (8 - s)) ∙ add_comm q shifted in
    ap (digits 64) or_is ∙ above ∙ ap (digits 64) (sym quotient)

pub shifted_is : (xs : List ℕ) (word s : ℕ) → length xs ≡ 9 → s < 8 → IsBytes xs
    → word ≡ from_be_bytes w64 (get_or xs 0 0 ∷ get_or xs 1 0 ∷ get_or xs 2 0 ∷ get_or xs 3 0 ∷ get_or xs 4 0 ∷ get_or xs 5 0 ∷ get_or xs 6 0 ∷ get_or xs 7 0 ∷ [])
    → digits 64 (bit_or (word * 2 ^ s % 2 ^ 64) (get_or xs 8 0 / 2 ^ (8 - s))) ≡ take 64 (drop s (bits_of xs))
shifted_is xs word s len lt fits e =
    let last = get_or xs 8 0 in
    let n = word * 2 ^ 8 + last in
    let e72 : s + (64 + (8 - s)) ≡ 72 = omega arith in
    let dropped : drop s (digits 72 n) ≡ digits (64 + (8 - s)) n = subst (λ (k : ℕ). drop s (digits k n) ≡ digits (64 + (8 - s)) n) e72 (drop-digits s (64 + (8 - s)) n) in
    or_bits word last s lt (fits 8) ∙ sym (ap (λ (t : List Bool). take 64 (drop s t)) (nine_bits xs word len fits e) ∙ ap (take 64) dropped ∙ take-digits 64 (8 - s) n)

-- ---- the window at a place

pub at_place : (bytes : List ℕ) (position : ℕ) → drop position (bits_of bytes) ≡ drop (position % 8) (bits_of (drop (position / 8) bytes))
at_place bytes position =
    let e : 8 * (position / 8) + position % 8 ≡ position = omega arith in
    ap (λ (k : ℕ). drop k (bits_of bytes)) (sym e) ∙ sym (drop-drop (position % 8) (8 * (position / 8)) (bits_of bytes)) ∙ ap (drop (position % 8)) (bits_of-drop (position / 8) bytes)

-- the bits from a place on, with the bytes from the place's on
pub at_rest : (bytes rest : List ℕ) (place : ℕ) → rest ≡ drop (place / 8) bytes → drop place (bits_of bytes) ≡ drop (place % 8) (bits_of rest)
at_rest bytes rest place e = at_place bytes place ∙ ap (λ (t : List ℕ). drop (place % 8) (bits_of t)) (sym e)

-- a place counted from the first bit of that byte
pub move_rest : (bytes rest : List ℕ) (place end : ℕ) → rest ≡ drop (place / 8) bytes → drop (place - place % 8 + end) (bits_of bytes) ≡ drop end (bits_of rest)
move_rest bytes rest place end e =
    let whole : place - place % 8 + end ≡ 8 * (place / 8) + end = omega arith in
    ap (λ (k : ℕ). drop k (bits_of bytes)) whole ∙ sym (drop-drop end (8 * (place / 8)) (bits_of bytes)) ∙ ap (drop end) (bits_of-drop (place / 8) bytes ∙ ap bits_of (sym e))

window_inside : (xs : List ℕ) (s : ℕ) → s < 8 → 9 ≤ length xs → take 64 (drop s (bits_of (take 9 xs))) ≡ window_of (drop s (bits_of xs))
window_inside xs s lt long =
    let a = bits_of (take 9 xs) in
    let b = bits_of (drop 9 xs) in
    let len : length a ≡ 72 = length-bits_of (take 9 xs) ∙ omega (arith, length-take 9 xs) in
    let parts : bits_of xs ≡ a ++ b = ap bits_of (sym (take-append-drop 9 xs)) ∙ bits_of-append (take 9 xs) (drop 9 xs) in
    let dropped : drop s (bits_of xs) ≡ drop s a ++ b = ap (drop s) parts ∙ drop-append-le s a b (omega arith) in
    sym (ap (λ (t : List Bool). take 64 (t ++ replicate 64 false)) dropped ∙ ap (take 64) (append_assoc (drop s a) b (replicate 64 false)) ∙ take-append-le 64 (drop s a) (b ++ replicate 64 false) (omega (arith, length-drop s a)))

window_over : (xs : List ℕ) (s : ℕ) → s < 8 → length xs < 9 → s ≤ 8 * length xs → take 64 (drop s (bits_of (xs ++ replicate (9 - length xs) 0))) ≡ window_of (drop s (bits_of xs))
window_over xs s lt short le =
    let k = 8 * (9 - length xs) in
    let a = bits_of xs in
    let len : length a ≡ 8 * length xs = length-bits_of xs in
    let parts : bits_of (xs ++ replicate (9 - length xs) 0) ≡ a ++ replicate k false = bits_of-append xs (replicate (9 - length xs) 0) ∙ ap (λ (t : List Bool). a ++ t) (bits_of-zeros (9 - length xs)) in
    let dropped : drop s (bits_of (xs ++ replicate (9 - length xs) 0)) ≡ drop s a ++ replicate k false = ap (drop s) parts ∙ drop-append-le s a (replicate k false) (omega arith) in
    ap (take 64) dropped ∙ padding_free 64 (drop s a) k 64 (omega (arith, length-drop s a)) (omega arith)

pub window_fast : (bytes : List ℕ) (position : ℕ) → position / 8 + 9 ≤ length bytes → take 64 (drop (position % 8) (bits_of (take 9 (drop (position / 8) bytes)))) ≡ window_of (drop position (bits_of bytes))
window_fast bytes position long =
    window_inside (drop (position / 8) bytes) (position % 8) (omega arith) (omega (arith, length-drop (position / 8) bytes)) ∙ ap window_of (sym (at_place bytes position))

pub window_slow : (bytes : List ℕ) (position : ℕ) → length bytes < position / 8 + 9 → position ≤ 8 * length bytes
    → take 64 (drop (position % 8) (bits_of (drop (position / 8) bytes ++ replicate (9 - length (drop (position / 8) bytes)) 0))) ≡ window_of (drop position (bits_of bytes))
window_slow bytes position short le =
    let len = length-drop (position / 8) bytes in
    window_over (drop (position / 8) bytes) (position % 8) (omega arith) (omega (arith, len)) (omega (arith, len)) ∙ ap window_of (sym (at_place bytes position))

-- ---- one bit

get-drop : (xs : List Bool) (n : ℕ) → slice_get xs n ≡ slice_get (drop n xs) 0
get-drop [] n = ap (λ (t : List Bool). slice_get t 0) (sym (drop-nil n))
get-drop (x ∷ xs) zero = refl
get-drop (x ∷ xs) (suc n) = get-drop xs n

first_digit : (b w : ℕ) (more : List Bool) → slice_get (digits (suc w) b ++ more) 0 ≡ Some (eqb (b / 2 ^ w % 2) 1)
unfolding digits
first_digit b w more = refl

bit_within : (b s : ℕ) (more : List Bool) → s < 8 → slice_get (drop s (digits 8 b ++ more)) 0 ≡ Some (eqb (bit_and (b / 2 ^ (7 - s)) 1) 1)
bit_within b s more lt =
    let e : s + suc (7 - s) ≡ 8 = omega arith in
    let dropped : drop s (digits 8 b) ≡ digits (suc (7 - s)) b = subst (λ (k : ℕ). drop s (digits k b) ≡ digits (suc (7 - s)) b) e (drop-digits s (suc (7 - s)) b) in
    let apart : drop s (digits 8 b ++ more) ≡ digits (suc (7 - s)) b ++ more = drop-append-le s (digits 8 b) more (omega (arith, length-digits 8 b)) ∙ ap (λ (t : List Bool). t ++ more) dropped in
    let masked : bit_and (b / 2 ^ (7 - s)) 1 ≡ b / 2 ^ (7 - s) % 2 = and_mask (b / 2 ^ (7 - s)) 1 in
    ap (λ (t : List Bool). slice_get t 0) apart ∙ first_digit b (7 - s) more ∙ ap (λ (k : ℕ). Some (eqb k 1)) (sym masked)

pub bit_at : (bytes : List ℕ) (position : ℕ) → position / 8 < length bytes → slice_get (bits_of bytes) position ≡ Some (eqb (bit_and (get_or bytes (position / 8) 0 / 2 ^ (7 - position % 8)) 1) 1)
bit_at bytes position lt =
    let b = get_or bytes (position / 8) 0 in
    get-drop (bits_of bytes) position ∙ ap (λ (t : List Bool). slice_get t 0) (at_place bytes position ∙ ap (λ (t : List ℕ). drop (position % 8) (bits_of t)) (drop_more bytes (position / 8) 0 lt))
    ∙ bit_within b (position % 8) (bits_of (drop (position / 8 + 1) bytes)) (omega arith)

pub bit_past : (bytes : List ℕ) (position : ℕ) → length bytes ≤ position / 8 → slice_get (bits_of bytes) position ≡ None
bit_past bytes position le = get-drop (bits_of bytes) position ∙ ap (λ (t : List Bool). slice_get t 0) (drop_all position (bits_of bytes) (omega (arith, length-bits_of bytes)))
