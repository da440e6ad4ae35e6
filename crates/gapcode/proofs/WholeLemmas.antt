-- All of the bytes.
use Rattle.std.proofs.Common.{◌≡◌, ℕ, zero, suc, ◌+◌, ◌-◌, ◌*◌, ◌%◌, ◌^◌, ◌<◌, ◌≤◌, Bool, true, false, cond, ltb, leb, List, [], ◌∷◌, ◌++◌, length, take, drop, Result, Ok, Err, refl, sym, ap, subst, ◌∙◌, arith}
use Rattle.std.specs.Prelude.{replicate, IfOk}
use Rattle.std.specs.Result.{result_and}
use Rattle.std.specs.List.{flat_map, AllByRecursion}
use Rattle.std.proofs.lemmas.Bool.{ltb-false, leb-false, lt-leb}
use Rattle.std.proofs.Math.Nat.{zero-mod}
use Rattle.std.proofs.lemmas.List.{take_all, take_at, drop_at, length-append, length-replicate}
use Rattle.gapcode.specs.declared.error.CodeError.{CodeError}
use Rattle.gapcode.specs.declared.error.CodeError.TheVariants.{Padding, Trailing}
use Rattle.gapcode.specs.declared.error.CodeError.TheVariants as errors
use Rattle.gapcode.specs.Bits.{digits, number_of, bits_of, gamma_at, zeros}
use Rattle.gapcode.specs.Lists.{list_bits, IsAscending, AreAscending, IsSpelling, AreSpelled, ◌>>=◌, elements_at, list_at, lists_at, end_at, all_of, GivesOrMemory}
use Rattle.gapcode.proofs.DigitsLemmas.{digits-zero, digits-number_of, number_of-digits, number_of-small, length-digits}
use Rattle.gapcode.proofs.GammaLemmas.{ok_is}
use Rattle.gapcode.proofs.WordsLemmas.{length-bits_of}
use Rattle.gapcode.proofs.SpelledLemmas.{bind_ok, guard_ok, lists_take, lists_again}

zero_bits : (bits : List Bool) → number_of bits ≡ 0 → bits ≡ replicate (length bits) false
zero_bits bits e = sym (digits-number_of bits) ∙ ap (digits (length bits)) e ∙ digits-zero (length bits)

zero_number : (n : ℕ) → number_of (replicate n false) ≡ 0
zero_number n = ap number_of (sym (digits-zero n)) ∙ number_of-digits n 0 ∙ zero-mod (2 ^ n)

end_takes : (bits : List Bool) (u : Unit {0}) → end_at bits ≡ Ok u → (length bits < 8) × (bits ≡ replicate (length bits) false)
end_takes bits u e =
    let number = number_of (take (length bits % 8) bits) in
    let g = guard_ok (ltb 0 number) Padding (cond (leb 8 (length bits)) (Err Trailing) (Ok tt)) u e in
    let h = guard_ok (leb 8 (length bits)) Trailing (Ok tt) u g.1 in
    let short : length bits < 8 = leb-false 8 (length bits) h.0 in
    let small : length bits % 8 ≡ length bits = omega (arith, short) in
    let whole : take (length bits % 8) bits ≡ bits = take_all (length bits % 8) bits (omega (arith, small)) in
    let none : number_of bits ≡ 0 = ap number_of (sym whole) ∙ omega (arith, ltb-false 0 number g.0) in
    (short, zero_bits bits none)

end_again : (pad : ℕ) → pad < 8 → end_at (replicate pad false) ≡ Ok tt
end_again pad short =
    let len = length-replicate pad false in
    let small : pad % 8 ≡ pad = omega (arith, short) in
    let whole : take pad (replicate pad false) ≡ replicate pad false = take_all pad (replicate pad false) (omega (arith, len)) in
    rw (len, small, whole, zero_number pad, lt-leb 8 pad short) refl

-- what is read is spelled so
pub all_takes : (bound count : ℕ) (bytes : List ℕ) (lists : List (List ℕ)) → all_of bound count bytes ≡ Ok lists → AreSpelled bound count bytes lists
unfolding all_of
all_takes bound count bytes lists e =
    let a = bind_ok (lists_at bound count (bits_of bytes)) (λ x. end_at x.1 >>= λ none. Ok x.0) lists e in
    let b = bind_ok (end_at a.0.1) (λ none. Ok a.0.0) lists a.2 in
    let h = lists_take bound count (bits_of bytes) a.0 a.1 in
    let f = end_takes a.0.1 b.0 b.1 in
    let spelled : IsSpelling bytes a.0.0 = (length a.0.1, f.0, h.0 ∙ ap (λ (t : List Bool). flat_map list_bits a.0.0 ++ t) f.1) in
    subst (λ (xss : List (List ℕ)). AreSpelled bound count bytes xss) (ok_is a.0.0 lists b.2) (record { spelled = spelled; count = h.1; ascend = h.2 })

-- what is spelled so is read
pub all_again : (bound : ℕ) (bytes : List ℕ) (lists : List (List ℕ)) → bound ≤ 2 ^ 32 → IsSpelling bytes lists → AllByRecursion (IsAscending bound 0) lists → all_of bound (length lists) bytes ≡ Ok lists
unfolding all_of
all_again bound bytes lists small spelled up =
    rw (spelled.2, lists_again bound lists (replicate spelled.0 false) small up, end_again spelled.0 spelled.1) refl

-- ---- no reading ends in want of memory

abbrev IsOther : CodeError → Type 0
IsOther errors.Memory = ⊥
IsOther e = Unit {0}

abbrev NoMemory : {A : Type 0} → Result A CodeError → Type 0
NoMemory (Ok x) = Unit {0}
NoMemory (Err e) = IsOther e

no_bind : {A B : Type 0} (r : Result A CodeError) (f : A → Result B CodeError) → NoMemory r → ((x : A) → NoMemory (f x)) → NoMemory (r >>= f)
no_bind (Ok x) f h g = g x
no_bind (Err e) f h g = h

no_cond : {A : Type 0} (b : Bool) (r s : Result A CodeError) → NoMemory r → NoMemory s → NoMemory (cond b r s)
no_cond true r s h k = h
no_cond false r s h k = k

no_gamma : (bits : List Bool) → NoMemory (gamma_at bits)
unfolding gamma_at
no_gamma bits = no_cond (leb 64 (zeros bits)) _ _ tt (no_cond (ltb (length bits) (2 * zeros bits + 1)) _ _ tt tt)

no_elements : (bound n least : ℕ) (bits : List Bool) → NoMemory (elements_at bound n least bits)
unfolding elements_at
no_elements bound zero least bits = tt
no_elements bound (suc n) least bits =
    no_bind (gamma_at bits) _ (no_gamma bits) (λ gap. no_cond (ltb bound (least + gap.0)) _ _ tt (no_bind (elements_at bound n (least + gap.0) gap.1) _ (no_elements bound n (least + gap.0) gap.1) (λ others. tt)))

no_list : (bound : ℕ) (bits : List Bool) → NoMemory (list_at bound bits)
unfolding list_at
no_list bound bits =
    no_bind (gamma_at bits) _ (no_gamma bits) (λ degree. no_cond (ltb bound (degree.0 - 1)) _ _ tt (no_elements bound (degree.0 - 1) 0 degree.1))

no_lists : (bound n : ℕ) (bits : List Bool) → NoMemory (lists_at bound n bits)
unfolding lists_at
no_lists bound zero bits = tt
no_lists bound (suc n) bits =
    no_bind (list_at bound bits) _ (no_list bound bits) (λ first. no_bind (lists_at bound n first.1) _ (no_lists bound n first.1) (λ others. tt))

no_end : (bits : List Bool) → NoMemory (end_at bits)
no_end bits = no_cond (ltb 0 (number_of (take (length bits % 8) bits))) _ _ tt (no_cond (leb 8 (length bits)) _ _ tt tt)

no_all : (bound count : ℕ) (bytes : List ℕ) → NoMemory (all_of bound count bytes)
unfolding all_of
no_all bound count bytes =
    no_bind (lists_at bound count (bits_of bytes)) _ (no_lists bound count (bits_of bytes)) (λ lists. no_bind (end_at lists.1) _ (no_end lists.1) (λ none. tt))

-- ---- what a reader answers

gives_other : (e : CodeError) (due : Result (List (List ℕ)) CodeError) → IsOther e → due ≡ Err e → GivesOrMemory (Err e) due
gives_other errors.Memory due other is = absurd other
gives_other errors.Ended due other is = sym is
gives_other errors.TooLong due other is = sym is
gives_other errors.Range due other is = sym is
gives_other errors.Padding due other is = sym is
gives_other errors.Trailing due other is = sym is

err_of : {A : Type 0} (r : Result A CodeError) (e : CodeError) → Err e ≡ result_and {U = Unit {0}} r (Ok tt) → r ≡ Err e
err_of (Ok x) e h = absurd cc
err_of (Err d) e h = let same : d ≡ e = cc in ap (λ (t : CodeError). Err t) same

pub gives_err : (bound count : ℕ) (bytes : List ℕ) (e : CodeError) → Err e ≡ result_and {U = Unit {0}} (all_of bound count bytes) (Ok tt) → GivesOrMemory (Err e) (all_of bound count bytes)
gives_err bound count bytes e h =
    let is = err_of (all_of bound count bytes) e h in
    gives_other e (all_of bound count bytes) (rw is at (no_all bound count bytes)) is

pub value_of : {A : Type 0} (r : Result A CodeError) → result_and {U = Unit {0}} r (Ok tt) ≡ Ok tt → (x : A) × (r ≡ Ok x)
value_of (Ok x) e = (x, refl)
value_of (Err e) h = absurd cc

pub read_found : (bound count : ℕ) (bytes : List ℕ) (r : Result (List (List ℕ)) CodeError) → GivesOrMemory r (all_of bound count bytes) → IfOk r (λ lists. AreSpelled bound count bytes lists)
read_found bound count bytes (Ok lists) h = all_takes bound count bytes lists (sym h)
read_found bound count bytes (Err e) h = tt

pub read_only : (bound count : ℕ) (bytes : List ℕ) (r : Result (List (List ℕ)) CodeError) → bound ≤ 2 ^ 32 → GivesOrMemory r (all_of bound count bytes)
    → (lists : List (List ℕ)) → AreSpelled bound count bytes lists → GivesOrMemory r (Ok lists)
read_only bound count bytes r small h lists is =
    subst (λ (due : Result (List (List ℕ)) CodeError). GivesOrMemory r due) (ap (λ (n : ℕ). all_of bound n bytes) (sym is.count) ∙ all_again bound bytes lists small is.spelled is.ascend) h

-- lists below one bound are below a greater one
ascending_below : (bound more least : ℕ) (xs : List ℕ) → bound ≤ more → IsAscending bound least xs → IsAscending more least xs
ascending_below bound more least [] le up = tt
ascending_below bound more least (x ∷ xs) le up = (up.0, omega (arith, up.1), ascending_below bound more (x + 1) xs le up.2)

pub below_more : (bound more : ℕ) (lists : List (List ℕ)) → bound ≤ more → AreAscending bound lists → AreAscending more lists
below_more bound more [] le up = tt
below_more bound more (xs ∷ lists) le up = (ascending_below bound more 0 xs le up.0, below_more bound more lists le up.1)

-- what is checked is spelled, below any greater bound too
pub checked : (bound more count : ℕ) (bytes : List ℕ) → bound ≤ more → Ok tt ≡ result_and {U = Unit {0}} (all_of bound count bytes) (Ok tt) → (lists : List (List ℕ)) × AreSpelled more count bytes lists × (all_of bound count bytes ≡ Ok lists)
checked bound more count bytes le h =
    let x = value_of (all_of bound count bytes) (sym h) in
    let t = all_takes bound count bytes x.0 x.1 in
    (x.0, record { spelled = t.spelled; count = t.count; ascend = below_more bound more x.0 le t.ascend }, x.1)

-- ---- one spelling

digits_same : (x y : ℕ) → x < 256 → y < 256 → digits 8 x ≡ digits 8 y → x ≡ y
digits_same x y lx ly e = sym (number_of-small 8 x lx) ∙ ap number_of e ∙ number_of-small 8 y ly

pub bits_of-same : (xs ys : List ℕ) → AllByRecursion (λ b. b < 256) xs → AllByRecursion (λ b. b < 256) ys → bits_of xs ≡ bits_of ys → xs ≡ ys
bits_of-same [] [] fx fy e = refl
bits_of-same [] (y ∷ ys) fx fy e = absurd (omega (arith, ap length e, length-append (digits 8 y) (bits_of ys), length-digits 8 y))
bits_of-same (x ∷ xs) [] fx fy e = absurd (omega (arith, ap length e, length-append (digits 8 x) (bits_of xs), length-digits 8 x))
bits_of-same (x ∷ xs) (y ∷ ys) fx fy e =
    let front = sym (take_at (digits 8 x) (bits_of xs) 8 (length-digits 8 x)) ∙ ap (take 8) e ∙ take_at (digits 8 y) (bits_of ys) 8 (length-digits 8 y) in
    let back = sym (drop_at (digits 8 x) (bits_of xs) 8 (length-digits 8 x)) ∙ ap (drop 8) e ∙ drop_at (digits 8 y) (bits_of ys) 8 (length-digits 8 y) in
    let head = digits_same x y fx.0 fy.0 front in
    let tail = bits_of-same xs ys fx.1 fy.1 back in
    cc

pub one_spelling : (xs ys : List ℕ) (lists : List (List ℕ)) → AllByRecursion (λ b. b < 256) xs → AllByRecursion (λ b. b < 256) ys → IsSpelling xs lists → IsSpelling ys lists → xs ≡ ys
one_spelling xs ys lists fx fy sx sy =
    let len = length (flat_map list_bits lists) in
    let px : 8 * length xs ≡ len + sx.0 = sym (length-bits_of xs) ∙ ap length sx.2 ∙ length-append (flat_map list_bits lists) (replicate sx.0 false) ∙ ap (λ (k : ℕ). len + k) (length-replicate sx.0 false) in
    let py : 8 * length ys ≡ len + sy.0 = sym (length-bits_of ys) ∙ ap length sy.2 ∙ length-append (flat_map list_bits lists) (replicate sy.0 false) ∙ ap (λ (k : ℕ). len + k) (length-replicate sy.0 false) in
    let same : sx.0 ≡ sy.0 = omega (arith, px, py, sx.1, sy.1) in
    bits_of-same xs ys fx fy (sx.2 ∙ ap (λ (k : ℕ). flat_map list_bits lists ++ replicate k false) same ∙ sym sy.2)

pub one_meaning : (bound : ℕ) (bytes : List ℕ) (xss yss : List (List ℕ)) → bound ≤ 2 ^ 32 → length xss ≡ length yss → AllByRecursion (IsAscending bound 0) xss → AllByRecursion (IsAscending bound 0) yss
    → IsSpelling bytes xss → IsSpelling bytes yss → xss ≡ yss
one_meaning bound bytes xss yss small len ux uy sx sy =
    ok_is xss yss (sym (all_again bound bytes xss small sx ux) ∙ ap (λ (n : ℕ). all_of bound n bytes) len ∙ all_again bound bytes yss small sy uy)
