-- What is read is spelled so, and what is spelled so is read.
use Rattle.std.proofs.Common.{◌≡◌, ℕ, zero, suc, ◌+◌, ◌-◌, ◌^◌, ◌≤◌, Bool, true, false, cond, ltb, List, [], ◌∷◌, ◌++◌, length, Result, Ok, Err, refl, sym, ap, subst, ◌∙◌, append_assoc, arith}
use Rattle.std.specs.List.{flat_map, AllByRecursion}
use Rattle.std.proofs.lemmas.Bool.{ltb-false, le-ltb}
use Rattle.std.proofs.lemmas.List.{append-nil}
use Rattle.gapcode.specs.declared.error.CodeError.{CodeError}
use Rattle.gapcode.specs.declared.error.CodeError.TheVariants.{Range}
use Rattle.gapcode.specs.Bits.{gamma, gamma_at}
use Rattle.gapcode.specs.Lists.{gaps, list_bits, IsAscending, ◌>>=◌, elements_at, list_at, lists_at}
use Rattle.gapcode.proofs.GammaLemmas.{gamma_takes, gamma_again, ok_is}

pub bind_ok : {A B : Type 0} (r : Result A CodeError) (f : A → Result B CodeError) (y : B) → (r >>= f) ≡ Ok y → (x : A) × (r ≡ Ok x) × (f x ≡ Ok y)
bind_ok (Ok x) f y e = (x, refl, e)
bind_ok (Err d) f y e = absurd cc

pub guard_ok : {A : Type 0} (b : Bool) (d : CodeError) (r : Result A CodeError) (y : A) → cond b (Err d) r ≡ Ok y → (b ≡ false) × (r ≡ Ok y)
guard_ok true d r y e = absurd cc
guard_ok false d r y e = (refl, e)

-- elements from least on, each by its distance
pub coded : ℕ → List ℕ → List Bool
coded least [] = []
coded least (x ∷ xs) = gamma (x + 1 - least) ++ coded (x + 1) xs

pub coded-none : (least : ℕ) → coded least [] ≡ []
unfolding coded
coded-none least = refl

pub coded-cons : (least x : ℕ) (xs : List ℕ) → coded least (x ∷ xs) ≡ gamma (x + 1 - least) ++ coded (x + 1) xs
unfolding coded
coded-cons least x xs = refl

coded-gaps : (last : ℕ) (xs : List ℕ) → coded (last + 1) xs ≡ gaps last xs
unfolding coded
coded-gaps last [] = refl
coded-gaps last (x ∷ xs) =
    let e : x + 1 - (last + 1) ≡ x - last = omega arith in
    rw (e, coded-gaps x xs) refl

pub list_bits-coded : (xs : List ℕ) → list_bits xs ≡ gamma (length xs + 1) ++ coded 0 xs
unfolding coded
list_bits-coded [] = rw append-nil refl
list_bits-coded (x ∷ xs) =
    let d : suc (length xs) + 1 ≡ length xs + 2 = omega arith in
    let e : x + 1 - 0 ≡ x + 1 = omega arith in
    rw (d, e, coded-gaps x xs) refl

pub elements_take : (bound n least : ℕ) (bits : List Bool) (x : List ℕ × List Bool) → elements_at bound n least bits ≡ Ok x → (bits ≡ coded least x.0 ++ x.1) × (length x.0 ≡ n) × IsAscending bound least x.0
unfolding elements_at coded
elements_take bound zero least bits x e = subst (λ (y : List ℕ × List Bool). (bits ≡ coded least y.0 ++ y.1) × (length y.0 ≡ 0) × IsAscending bound least y.0) (ok_is ([], bits) x e) (refl, refl, tt)
elements_take bound (suc n) least bits x e =
    let a = bind_ok (gamma_at bits) (λ gap. cond (ltb bound (least + gap.0)) (Err Range) (elements_at bound n (least + gap.0) gap.1 >>= λ others. Ok ((least + (gap.0 - 1)) ∷ others.0, others.1))) x e in
    let gap = a.0.0 in
    let more = a.0.1 in
    let g = guard_ok (ltb bound (least + gap)) Range (elements_at bound n (least + gap) more >>= λ others. Ok ((least + (gap - 1)) ∷ others.0, others.1)) x a.2 in
    let b = bind_ok (elements_at bound n (least + gap) more) (λ others. Ok ((least + (gap - 1)) ∷ others.0, others.1)) x g.1 in
    let code = gamma_takes bits gap more a.1 in
    let fits : least + gap ≤ bound = ltb-false bound (least + gap) g.0 in
    let ih = elements_take bound n (least + gap) more b.0 b.1 in
    let step : least + (gap - 1) + 1 ≡ least + gap = omega (arith, code.1) in
    let distance : least + (gap - 1) + 1 - least ≡ gap = omega (arith, code.1) in
    let made : List ℕ × List Bool = ((least + (gap - 1)) ∷ b.0.0, b.0.1) in
    let all : bits ≡ (gamma (least + (gap - 1) + 1 - least) ++ coded (least + (gap - 1) + 1) b.0.0) ++ b.0.1 =
    rw (distance, step) (code.0 ∙ ap (λ (t : List Bool). gamma gap ++ t) ih.0 ∙ sym (append_assoc (gamma gap) (coded (least + gap) b.0.0) b.0.1)) in
    subst (λ (y : List ℕ × List Bool). (bits ≡ coded least y.0 ++ y.1) × (length y.0 ≡ suc n) × IsAscending bound least y.0) (ok_is made x b.2)
    (all, ap suc ih.1, (omega (arith, code.1), omega (arith, code.1), rw step ih.2))

pub elements_again : (bound least : ℕ) (xs : List ℕ) (rest : List Bool) → bound ≤ 2 ^ 32 → IsAscending bound least xs → elements_at bound (length xs) least (coded least xs ++ rest) ≡ Ok (xs, rest)
unfolding elements_at coded
elements_again bound least [] rest small up = refl
elements_again bound least (x ∷ xs) rest small up =
    let gap = x + 1 - least in
    let more = coded (x + 1) xs ++ rest in
    let regrouped : (gamma gap ++ coded (x + 1) xs) ++ rest ≡ gamma gap ++ more = append_assoc (gamma gap) (coded (x + 1) xs) rest in
    let read : gamma_at (gamma gap ++ more) ≡ Ok (gap, more) = gamma_again gap more (omega (arith, up.0)) (omega (arith, up.1)) in
    let step : least + gap ≡ x + 1 = omega (arith, up.0) in
    let element : least + (gap - 1) ≡ x = omega (arith, up.0) in
    let fits : ltb bound (x + 1) ≡ false = le-ltb bound (x + 1) (omega (arith, up.1)) in
    ap (elements_at bound (suc (length xs)) least) regrouped ∙ rw (read, step, fits, elements_again bound (x + 1) xs rest small up.2, element) refl

ascending_short : (bound least : ℕ) (xs : List ℕ) → least ≤ bound → IsAscending bound least xs → length xs + least ≤ bound
ascending_short bound least [] le up = omega arith
ascending_short bound least (x ∷ xs) le up = omega (arith, ascending_short bound (x + 1) xs (omega (arith, up.1)) up.2, up.0)

pub list_takes : (bound : ℕ) (bits : List Bool) (x : List ℕ × List Bool) → list_at bound bits ≡ Ok x → (bits ≡ list_bits x.0 ++ x.1) × IsAscending bound 0 x.0
unfolding list_at
list_takes bound bits x e =
    let a = bind_ok (gamma_at bits) (λ degree. cond (ltb bound (degree.0 - 1)) (Err Range) (elements_at bound (degree.0 - 1) 0 degree.1)) x e in
    let degree = a.0.0 in
    let more = a.0.1 in
    let g = guard_ok (ltb bound (degree - 1)) Range (elements_at bound (degree - 1) 0 more) x a.2 in
    let code = gamma_takes bits degree more a.1 in
    let h = elements_take bound (degree - 1) 0 more x g.1 in
    let d : length x.0 + 1 ≡ degree = omega (arith, h.1, code.1) in
    (rw (list_bits-coded x.0, d) (code.0 ∙ ap (λ (t : List Bool). gamma degree ++ t) h.0 ∙ sym (append_assoc (gamma degree) (coded 0 x.0) x.1)), h.2)

pub list_again : (bound : ℕ) (xs : List ℕ) (rest : List Bool) → bound ≤ 2 ^ 32 → IsAscending bound 0 xs → list_at bound (list_bits xs ++ rest) ≡ Ok (xs, rest)
unfolding list_at
list_again bound xs rest small up =
    let n = length xs in
    let more = coded 0 xs ++ rest in
    let short = ascending_short bound 0 xs (omega arith) up in
    let regrouped : list_bits xs ++ rest ≡ gamma (n + 1) ++ more = ap (λ (t : List Bool). t ++ rest) (list_bits-coded xs) ∙ append_assoc (gamma (n + 1)) (coded 0 xs) rest in
    let read : gamma_at (gamma (n + 1) ++ more) ≡ Ok (n + 1, more) = gamma_again (n + 1) more (omega arith) (omega arith) in
    let degree : n + 1 - 1 ≡ n = omega arith in
    let fits : ltb bound n ≡ false = le-ltb bound n (omega arith) in
    ap (list_at bound) regrouped ∙ rw (read, degree, fits) (elements_again bound 0 xs rest small up)

pub lists_take : (bound n : ℕ) (bits : List Bool) (x : List (List ℕ) × List Bool) → lists_at bound n bits ≡ Ok x → (bits ≡ flat_map list_bits x.0 ++ x.1) × (length x.0 ≡ n) × AllByRecursion (IsAscending bound 0) x.0
unfolding lists_at
lists_take bound zero bits x e = subst (λ (y : List (List ℕ) × List Bool). (bits ≡ flat_map list_bits y.0 ++ y.1) × (length y.0 ≡ 0) × AllByRecursion (IsAscending bound 0) y.0) (ok_is ([], bits) x e) (refl, refl, tt)
lists_take bound (suc n) bits x e =
    let a = bind_ok (list_at bound bits) (λ first. lists_at bound n first.1 >>= λ others. Ok (first.0 ∷ others.0, others.1)) x e in
    let b = bind_ok (lists_at bound n a.0.1) (λ others. Ok (a.0.0 ∷ others.0, others.1)) x a.2 in
    let one = list_takes bound bits a.0 a.1 in
    let ih = lists_take bound n a.0.1 b.0 b.1 in
    let made : List (List ℕ) × List Bool = (a.0.0 ∷ b.0.0, b.0.1) in
    subst (λ (y : List (List ℕ) × List Bool). (bits ≡ flat_map list_bits y.0 ++ y.1) × (length y.0 ≡ suc n) × AllByRecursion (IsAscending bound 0) y.0) (ok_is made x b.2)
    (one.0 ∙ ap (λ (t : List Bool). list_bits a.0.0 ++ t) ih.0 ∙ sym (append_assoc (list_bits a.0.0) (flat_map list_bits b.0.0) b.0.1), ap suc ih.1, (one.1, ih.2))

pub lists_again : (bound : ℕ) (xss : List (List ℕ)) (rest : List Bool) → bound ≤ 2 ^ 32 → AllByRecursion (IsAscending bound 0) xss → lists_at bound (length xss) (flat_map list_bits xss ++ rest) ≡ Ok (xss, rest)
unfolding lists_at
lists_again bound [] rest small up = refl
lists_again bound (xs ∷ xss) rest small up =
    let regrouped : flat_map list_bits (xs ∷ xss) ++ rest ≡ list_bits xs ++ (flat_map list_bits xss ++ rest) = append_assoc (list_bits xs) (flat_map list_bits xss) rest in
    ap (lists_at bound (suc (length xss))) regrouped ∙ rw (list_again bound xs (flat_map list_bits xss ++ rest) small up.0, lists_again bound xss rest small up.1) refl
