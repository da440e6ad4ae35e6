-- One element of a list.
use Rattle.std.proofs.Common.{◌≡◌, ℕ, zero, suc, ◌+◌, ◌-◌, ◌*◌, ◌/◌, ◌%◌, ◌<◌, ◌≤◌, Bool, cond, ltb, List, [], ◌∷◌, length, drop, Result, Ok, Err, refl, sym, ap, ◌∙◌, arith}
use Rattle.std.proofs.lemmas.Bool.{ltb-false, le-ltb}
use Rattle.gapcode.specs.declared.error.CodeError.{CodeError}
use Rattle.gapcode.specs.declared.error.CodeError.TheVariants.{Range}
use Rattle.gapcode.specs.Bits.{gamma_at, bits_of}
use Rattle.gapcode.specs.Lists.{◌>>=◌, elements_at, beyond, values, elements_of, read_list, list_at, SpellsFrom, IsPlaced}
use Rattle.gapcode.proofs.GammaLemmas.{gamma_takes, ok_is}
use Rattle.std.proofs.lemmas.List.{length-drop}
use Rattle.gapcode.proofs.WordsLemmas.{at_rest}
use Rattle.gapcode.proofs.SpelledLemmas.{bind_ok, guard_ok, elements_take}

pub record Next (n least : ℕ) (bits : List Bool) (gap : ℕ) (more : List Bool) : Type 0 where
  pub read : gamma_at bits ≡ Ok (gap, more)
  pub fits : least + gap ≤ beyond
  pub some : 0 < gap
  pub rest : (x : List ℕ × List Bool) × (elements_at beyond n (least + gap) more ≡ Ok x)
  pub split : elements_of (suc n) least bits ≡ (least + (gap - 1)) ∷ elements_of n (least + gap) more

split_is : (n least gap : ℕ) (bits more : List Bool) (x : List ℕ × List Bool) → gamma_at bits ≡ Ok (gap, more) → least + gap ≤ beyond → elements_at beyond n (least + gap) more ≡ Ok x
    → elements_of (suc n) least bits ≡ (least + (gap - 1)) ∷ elements_of n (least + gap) more
unfolding elements_at
split_is n least gap bits more x read fits rest = rw (read, le-ltb beyond (least + gap) fits, rest) refl

pub next_is : (n least : ℕ) (bits : List Bool) → (x : List ℕ × List Bool) × (elements_at beyond (suc n) least bits ≡ Ok x) → (gap : ℕ) × (more : List Bool) × Next n least bits gap more
unfolding elements_at
next_is n least bits h =
    let a = bind_ok (gamma_at bits) (λ gap. cond (ltb beyond (least + gap.0)) (Err Range) (elements_at beyond n (least + gap.0) gap.1 >>= λ others. Ok ((least + (gap.0 - 1)) ∷ others.0, others.1))) h.0 h.1 in
    let gap = a.0.0 in
    let more = a.0.1 in
    let g = guard_ok (ltb beyond (least + gap)) Range (elements_at beyond n (least + gap) more >>= λ others. Ok ((least + (gap - 1)) ∷ others.0, others.1)) h.0 a.2 in
    let b = bind_ok (elements_at beyond n (least + gap) more) (λ others. Ok ((least + (gap - 1)) ∷ others.0, others.1)) h.0 g.1 in
    let code = gamma_takes bits gap more a.1 in
    let fits : least + gap ≤ beyond = ltb-false beyond (least + gap) g.0 in
    (gap, more, record { read = a.1; fits = fits; some = code.1; rest = (b.0, b.1); split = split_is n least gap bits more b.0 a.1 fits b.1 })

-- what comes next, of a count that is not 0
pub next_of : (left least : ℕ) (bits : List Bool) → 0 < left → (x : List ℕ × List Bool) × (elements_at beyond left least bits ≡ Ok x) → (gap : ℕ) × (more : List Bool) × (gamma_at bits ≡ Ok (gap, more)) × (least + gap ≤ beyond) × (0 < gap)
    × ((x : List ℕ × List Bool) × (elements_at beyond (left - 1) (least + gap) more ≡ Ok x)) × (elements_of left least bits ≡ (least + (gap - 1)) ∷ elements_of (left - 1) (least + gap) more)
next_of zero least bits pos h = absurd (omega arith)
next_of (suc n) least bits pos h =
    let t = next_is n least bits h in
    let e : suc n - 1 ≡ n = omega arith in
    rw e (t.0, t.1, t.2.read, t.2.fits, t.2.some, t.2.rest, t.2.split)

pub record Stepped (bytes : List ℕ) (position left least gap place : ℕ) : Type 0 where
  pub some : 0 < gap
  pub fits : least + gap ≤ beyond
  pub next : elements_of left least (drop position (bits_of bytes)) ≡ (least + (gap - 1)) ∷ elements_of (left - 1) (least + (gap - 1) + 1) (drop place (bits_of bytes))
  pub placed : SpellsFrom bytes place (left - 1) (least + (gap - 1) + 1)

pub stepped : (bytes : List ℕ) (position left least gap place : ℕ) → SpellsFrom bytes position left least → 0 < left → Ok (gap, drop place (bits_of bytes)) ≡ gamma_at (drop position (bits_of bytes)) → place ≤ 8 * length bytes → Stepped bytes position left least gap place
stepped bytes position left least gap place is pos read inside =
    let t = next_of left least (drop position (bits_of bytes)) pos is.coded in
    let p : ℕ × List Bool = (gap, drop place (bits_of bytes)) in
    let q : ℕ × List Bool = (t.0, t.1) in
    let same = ok_is p q (read ∙ t.2) in
    let g : gap ≡ t.0 = ap (λ (x : ℕ × List Bool). x.0) same in
    let m : drop place (bits_of bytes) ≡ t.1 = ap (λ (x : ℕ × List Bool). x.1) same in
    let e : least + (gap - 1) + 1 ≡ least + t.0 = omega (arith, g, t.4) in
    let f : least + (gap - 1) ≡ least + (t.0 - 1) = omega (arith, g) in
    record { some = omega (arith, g, t.4); fits = omega (arith, g, t.3); next = rw (m, e, f) t.6; placed = record { inside = inside; coded = rw (m, e) t.5 } }

-- what was read is no error
apart : {e : CodeError} {x : ℕ × List Bool} → Err e ≡ Ok x → ⊥
apart h = cc

pub no_error : (bytes : List ℕ) (position left least : ℕ) (e : CodeError) → SpellsFrom bytes position left least → 0 < left → Err e ≡ gamma_at (drop position (bits_of bytes)) → ⊥
no_error bytes position left least e is pos read =
    let t = next_of left least (drop position (bits_of bytes)) pos is.coded in
    apart (read ∙ t.2)

-- ---- the degree

pub record Begun (bytes : List ℕ) (position code end : ℕ) : Type 0 where
  pub some : 0 < code
  pub first : elements_of (code - 1) 0 (drop end (bits_of bytes)) ≡ read_list (drop position (bits_of bytes))
  pub placed : SpellsFrom bytes end (code - 1) 0

pub begun : (bytes : List ℕ) (position code end : ℕ) → IsPlaced bytes position → Ok (code, drop end (bits_of bytes)) ≡ gamma_at (drop position (bits_of bytes)) → end ≤ 8 * length bytes → Begun bytes position code end
unfolding list_at
begun bytes position code end is read inside =
    let bits = drop position (bits_of bytes) in
    let x = is.coded.0 in
    let a = bind_ok (gamma_at bits) (λ degree. cond (ltb beyond (degree.0 - 1)) (Err Range) (elements_at beyond (degree.0 - 1) 0 degree.1)) x is.coded.1 in
    let g = guard_ok (ltb beyond (a.0.0 - 1)) Range (elements_at beyond (a.0.0 - 1) 0 a.0.1) x a.2 in
    let p : ℕ × List Bool = (code, drop end (bits_of bytes)) in
    let same = ok_is p a.0 (read ∙ a.1) in
    let k : code ≡ a.0.0 = ap (λ (t : ℕ × List Bool). t.0) same in
    let m : drop end (bits_of bytes) ≡ a.0.1 = ap (λ (t : ℕ × List Bool). t.1) same in
    let some = (gamma_takes bits a.0.0 a.0.1 a.1).1 in
    let els : elements_at beyond (code - 1) 0 (drop end (bits_of bytes)) ≡ Ok x = rw (k, m) g.1 in
    record { some = omega (arith, k, some); first = ap values (els ∙ sym is.coded.1); placed = record { inside = inside; coded = (x, els) } }

pub no_list : (bytes : List ℕ) (position : ℕ) (e : CodeError) → IsPlaced bytes position → Err e ≡ gamma_at (drop position (bits_of bytes)) → ⊥
unfolding list_at
no_list bytes position e is read =
    let bits = drop position (bits_of bytes) in
    let a = bind_ok (gamma_at bits) (λ degree. cond (ltb beyond (degree.0 - 1)) (Err Range) (elements_at beyond (degree.0 - 1) 0 degree.1)) is.coded.0 is.coded.1 in
    apart (read ∙ a.1)

-- ---- a place, counted from the byte that has it

placed_inside : (bytes rest : List ℕ) (place : ℕ) → rest ≡ drop (place / 8) bytes → place ≤ 8 * length bytes → place % 8 ≤ 8 * length rest
placed_inside bytes rest place e inside = rw e (omega (arith, length-drop (place / 8) bytes))

pub moved : (bytes rest : List ℕ) (place left least : ℕ) → rest ≡ drop (place / 8) bytes → SpellsFrom bytes place left least → SpellsFrom rest (place % 8) left least
moved bytes rest place left least e is = record {
  inside = placed_inside bytes rest place e is.inside;
  coded = (is.coded.0, ap (elements_at beyond left least) (sym (at_rest bytes rest place e)) ∙ is.coded.1);
}

pub list_moved : (bytes rest : List ℕ) (place : ℕ) → rest ≡ drop (place / 8) bytes → IsPlaced bytes place → IsPlaced rest (place % 8)
list_moved bytes rest place e is = record {
  inside = placed_inside bytes rest place e is.inside;
  coded = (is.coded.0, ap (list_at beyond) (sym (at_rest bytes rest place e)) ∙ is.coded.1);
}

pub length-placed : (bytes : List ℕ) (place left least : ℕ) → SpellsFrom bytes place left least → length (elements_of left least (drop place (bits_of bytes))) ≡ left
length-placed bytes place left least is =
    ap (λ (r : Result (List ℕ × List Bool) CodeError). length (values r)) is.coded.1 ∙ (elements_take beyond left least (drop place (bits_of bytes)) is.coded.0 is.coded.1).1

pub none_left : (left least : ℕ) (bits : List Bool) → left ≡ 0 → elements_of left least bits ≡ []
unfolding elements_at
none_left left least bits e = rw e refl
