-- Reading lists one after the other, as loops do.
use Rattle.std.proofs.Common.{◌≡◌, ℕ, suc, ◌+◌, ◌-◌, ◌*◌, ◌/◌, ◌%◌, ◌^◌, ◌<◌, ◌≤◌, Bool, List, ◌∷◌, ◌++◌, length, get_or, take, drop, Result, Ok, Err, refl, sym, ap, subst, ◌∙◌, arith}
use Rattle.std.specs.Result.{result_and}
use Rattle.std.proofs.lemmas.Bool.{le-ltb, lt-ltb}
use Rattle.gapcode.specs.declared.error.CodeError.{CodeError}
use Rattle.gapcode.specs.declared.error.CodeError.TheVariants.{Range}
use Rattle.std.proofs.lemmas.List.{drop_more, drop-append-le, take_at, length-drop}
use Rattle.gapcode.specs.Bits.{gamma_at, bits_of, digits, number_of}
use Rattle.gapcode.specs.Lists.{◌>>=◌, elements_at, list_at, lists_at, bits_after, end_at, all_of}
use Rattle.gapcode.proofs.DigitsLemmas.{drop-digits, length-digits, number_of-digits}
use Rattle.gapcode.proofs.WordsLemmas.{at_place, length-bits_of}
use Rattle.gapcode.proofs.GammaLemmas.{ok_is}

after_front : {A B : Type 0} (f : A → B) (r : Result (A × List Bool) CodeError) → bits_after (r >>= λ x. Ok (f x.0, x.1)) ≡ bits_after r
after_front f (Ok x) = refl
after_front f (Err e) = refl

pub element_goes_on : (bound count i least gap : ℕ) (bits more : List Bool) (total : Result (List Bool) CodeError) → i < count → gamma_at bits ≡ Ok (gap, more) → least + gap ≤ bound
    → bits_after (elements_at bound (count - i) least bits) ≡ total → bits_after (elements_at bound (count - (i + 1)) (least + gap) more) ≡ total
unfolding elements_at
element_goes_on bound count i least gap bits more total lt read fits so_far =
    let k : count - i ≡ suc (count - (i + 1)) = omega arith in
    let one : bits_after (elements_at bound (count - i) least bits) ≡ bits_after (elements_at bound (count - (i + 1)) (least + gap) more) =
    rw (k, read, le-ltb bound (least + gap) fits) (after_front (λ (xs : List ℕ). (least + (gap - 1)) ∷ xs) (elements_at bound (count - (i + 1)) (least + gap) more)) in
    sym one ∙ so_far

pub element_range : (bound count i least gap : ℕ) (bits more : List Bool) (total : Result (List Bool) CodeError) → i < count → gamma_at bits ≡ Ok (gap, more) → bound < least + gap
    → bits_after (elements_at bound (count - i) least bits) ≡ total → Err Range ≡ total
unfolding elements_at
element_range bound count i least gap bits more total lt read over so_far =
    let k : count - i ≡ suc (count - (i + 1)) = omega arith in
    let one : bits_after (elements_at bound (count - i) least bits) ≡ Err Range = rw (k, read, lt-ltb bound (least + gap) over) refl in
    sym one ∙ so_far

pub element_fails : (bound count i least : ℕ) (bits : List Bool) (e : CodeError) (total : Result (List Bool) CodeError) → i < count → gamma_at bits ≡ Err e
    → bits_after (elements_at bound (count - i) least bits) ≡ total → Err e ≡ total
unfolding elements_at
element_fails bound count i least bits e total lt read so_far =
    let k : count - i ≡ suc (count - (i + 1)) = omega arith in
    let one : bits_after (elements_at bound (count - i) least bits) ≡ Err e = rw (k, read) refl in
    sym one ∙ so_far

pub elements_done : (bound count i least : ℕ) (bits : List Bool) (total : Result (List Bool) CodeError) → count ≤ i → bits_after (elements_at bound (count - i) least bits) ≡ total → Ok bits ≡ total
unfolding elements_at
elements_done bound count i least bits total le so_far =
    let k : count - i ≡ 0 = omega arith in
    let one : bits_after (elements_at bound (count - i) least bits) ≡ Ok bits = rw k refl in
    sym one ∙ so_far

-- ---- whole lists

pub after_ok : {A : Type 0} (r : Result (A × List Bool) CodeError) (more : List Bool) → bits_after r ≡ Ok more → (x : A) × (r ≡ Ok (x, more))
after_ok (Ok x) more e = (x.0, ap (λ (t : List Bool). Ok (x.0, t)) (ok_is x.1 more e))
after_ok (Err d) more e = absurd cc

pub after_err : {A : Type 0} (r : Result (A × List Bool) CodeError) (d : CodeError) → bits_after r ≡ Err d → r ≡ Err d
after_err (Ok x) d e = absurd cc
after_err (Err x) d e = let h : x ≡ d = cc in ap (λ (t : CodeError). Err t) h

pub list_goes_on : (bound count i : ℕ) (bits more : List Bool) (total : Result (List Bool) CodeError) → i < count → bits_after (list_at bound bits) ≡ Ok more
    → bits_after (lists_at bound (count - i) bits) ≡ total → bits_after (lists_at bound (count - (i + 1)) more) ≡ total
unfolding lists_at
list_goes_on bound count i bits more total lt read so_far =
    let k : count - i ≡ suc (count - (i + 1)) = omega arith in
    let x = after_ok (list_at bound bits) more read in
    let one : bits_after (lists_at bound (count - i) bits) ≡ bits_after (lists_at bound (count - (i + 1)) more) =
    rw (k, x.1) (after_front (λ (xss : List (List ℕ)). x.0 ∷ xss) (lists_at bound (count - (i + 1)) more)) in
    sym one ∙ so_far

pub list_fails : (bound count i : ℕ) (bits : List Bool) (e : CodeError) (total : Result (List Bool) CodeError) → i < count → bits_after (list_at bound bits) ≡ Err e
    → bits_after (lists_at bound (count - i) bits) ≡ total → Err e ≡ total
unfolding lists_at
list_fails bound count i bits e total lt read so_far =
    let k : count - i ≡ suc (count - (i + 1)) = omega arith in
    let x = after_err (list_at bound bits) e read in
    let one : bits_after (lists_at bound (count - i) bits) ≡ Err e = rw (k, x) refl in
    sym one ∙ so_far

pub lists_done : (bound count i : ℕ) (bits : List Bool) (total : Result (List Bool) CodeError) → count ≤ i → bits_after (lists_at bound (count - i) bits) ≡ total → Ok bits ≡ total
unfolding lists_at
lists_done bound count i bits total le so_far =
    let k : count - i ≡ 0 = omega arith in
    let one : bits_after (lists_at bound (count - i) bits) ≡ Ok bits = rw k refl in
    sym one ∙ so_far

-- ---- what follows

-- the bits up to the next whole byte, as a number
pub padding_is : (bytes : List ℕ) (position pad : ℕ) → 0 < pad → position % 8 + pad ≡ 8 → position / 8 < length bytes
    → number_of (take pad (drop position (bits_of bytes))) ≡ get_or bytes (position / 8) 0 % 2 ^ pad
padding_is bytes position pad pos e lt =
    let s = position % 8 in
    let b = get_or bytes (position / 8) 0 in
    let more = bits_of (drop (position / 8 + 1) bytes) in
    let at : drop position (bits_of bytes) ≡ drop s (digits 8 b ++ more) = at_place bytes position ∙ ap (λ (t : List ℕ). drop s (bits_of t)) (drop_more bytes (position / 8) 0 lt) in
    let dropped : drop s (digits 8 b) ≡ digits pad b = subst (λ (k : ℕ). drop s (digits k b) ≡ digits pad b) e (drop-digits s pad b) in
    let apart : drop s (digits 8 b ++ more) ≡ digits pad b ++ more = drop-append-le s (digits 8 b) more (omega (arith, length-digits 8 b)) ∙ ap (λ (t : List Bool). t ++ more) dropped in
    ap (λ (t : List Bool). number_of (take pad t)) (at ∙ apart) ∙ ap number_of (take_at (digits pad b) more pad (length-digits pad b)) ∙ number_of-digits pad b

pub left_len : (bytes : List ℕ) (position : ℕ) → length (drop position (bits_of bytes)) ≡ 8 * length bytes - position
left_len bytes position = length-drop position (bits_of bytes) ∙ omega (arith, length-bits_of bytes)

pub no_padding : (bits : List Bool) (pad : ℕ) → pad ≡ 0 → 0 ≡ number_of (take pad bits)
unfolding number_of
no_padding bits pad e = rw e refl

-- ---- all of the bytes

pub check_fails : (bound count : ℕ) (bytes : List ℕ) (e : CodeError) → bits_after (lists_at bound count (bits_of bytes)) ≡ Err e → Err e ≡ result_and {U = Unit {0}} (all_of bound count bytes) (Ok tt)
unfolding all_of
check_fails bound count bytes e h = rw (after_err (lists_at bound count (bits_of bytes)) e h) refl

pub check_goes_on : (bound count : ℕ) (bytes : List ℕ) (more : List Bool) → bits_after (lists_at bound count (bits_of bytes)) ≡ Ok more → end_at more ≡ result_and {U = Unit {0}} (all_of bound count bytes) (Ok tt)
unfolding all_of
check_goes_on bound count bytes more h =
    let x = after_ok (lists_at bound count (bits_of bytes)) more h in
    rw (x.1) (kept (end_at more) x.0)
  where
    kept : (r : Result (Unit {0}) CodeError) (xss : List (List ℕ)) → r ≡ result_and {U = Unit {0}} (r >>= λ none. Ok xss) (Ok tt)
    kept (Ok u) xss = refl
    kept (Err e) xss = refl
