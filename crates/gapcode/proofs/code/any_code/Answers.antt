use Rattle.std.proofs.Common.{◌≡◌, ◌∙◌, ℕ, List, Bool, ◌+◌, ◌-◌, ◌*◌, length, drop, Result, Ok, sym, ap, arith}
use Rattle.std.proofs.lemmas.List.{length-drop, drop-drop}
use Rattle.std.proofs.lemmas.Nat.{leading_le}
use Rattle.std.specs.Int.Count.{count_leading_zeros}
use Rattle.gapcode.specs.Bits.{bits_of, window_of}
use Rattle.gapcode.specs.declared.error.CodeError.{CodeError}
use Rattle.gapcode.proofs.WordsLemmas.{length-bits_of}
use Rattle.gapcode.proofs.GammaLemmas.{IsWindow, next_ended, next_too_long, next_short, next_near, next_far}
use Rattle.gapcode.proofs.code.any_code.Goals as goal

-- how many bits are left
left : (bytes : List ℕ) (position : ℕ) → length (drop position (bits_of bytes)) ≡ 8 * length bytes - position
left bytes position = length-drop position (bits_of bytes) ∙ omega (arith, length-bits_of bytes)

placed : (x n position : ℕ) (bits : List Bool) (r : Result (ℕ × List Bool) CodeError) → r ≡ Ok (x, drop n (drop position bits)) → Ok (x, drop (position + n) bits) ≡ r
placed x n position bits r e = ap (λ (t : List Bool). Ok (x, t)) (sym (drop-drop n position bits)) ∙ sym e

pub returns-then-left-lt-BITS-clause-exact : goal.returns-then-left-lt-BITS-clause-exact
returns-then-left-lt-BITS-clause-exact c =
    sym (next_ended c.next_word-front.result (drop c.args.position (bits_of c.args.bytes.now)) (record { below = omega arith; digits = c.next_word-front.ensures }) c.if-zeros-eq-BITS.true (omega (arith, left c.args.bytes.now c.args.position, leading_le 64 c.next_word-front.result)))

pub returns-then-zeros-eq-BITS-clause-exact : goal.returns-then-zeros-eq-BITS-clause-exact
returns-then-zeros-eq-BITS-clause-exact c =
    sym (next_too_long c.next_word-front.result (drop c.args.position (bits_of c.args.bytes.now)) (record { below = omega arith; digits = c.next_word-front.ensures }) c.if-zeros-eq-BITS.true (omega (arith, left c.args.bytes.now c.args.position, leading_le 64 c.next_word-front.result)))

pub returns-then-left-len-clause-exact : goal.returns-then-left-len-clause-exact
returns-then-left-len-clause-exact c =
    sym (next_short c.next_word-front.result (drop c.args.position (bits_of c.args.bytes.now)) (record { below = omega arith; digits = c.next_word-front.ensures }) c.if-zeros-eq-BITS.false (omega (arith, left c.args.bytes.now c.args.position, leading_le 64 c.next_word-front.result)))

pub returns-then-zeros-lt32-clause-exact : goal.returns-then-zeros-lt32-clause-exact
returns-then-zeros-lt32-clause-exact c =
    let bits = bits_of c.args.bytes.now in
    let next = next_near c.next_word-front.result (drop c.args.position bits) (record { below = omega arith; digits = c.next_word-front.ensures }) c.if-zeros-eq-BITS.false (omega (arith, left c.args.bytes.now c.args.position, leading_le 64 c.next_word-front.result)) c.if-zeros-lt32.true in
    placed _ _ c.args.position bits _ next

pub returns-clause-exact : goal.returns-clause-exact
returns-clause-exact c =
    let bits = bits_of c.args.bytes.now in
    let w = c.next_word-front.result in
    let again : IsWindow c.next_word.result (drop (count_leading_zeros 64 w) (drop c.args.position bits)) = record { below = omega arith; digits = c.next_word.ensures ∙ ap window_of (sym (drop-drop (count_leading_zeros 64 w) c.args.position bits)) } in
    let next = next_far w c.next_word.result (drop c.args.position bits) (record { below = omega arith; digits = c.next_word-front.ensures }) c.if-zeros-eq-BITS.false (omega (arith, left c.args.bytes.now c.args.position, leading_le 64 c.next_word-front.result)) again in
    placed _ _ c.args.position bits _ next
