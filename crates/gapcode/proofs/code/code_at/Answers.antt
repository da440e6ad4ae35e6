use Rattle.std.proofs.Common.{◌≡◌, ◌∙◌, ℕ, List, Bool, ◌+◌, ◌-◌, ◌*◌, ◌/◌, ◌^◌, ◌<◌, drop, Ok, sym, ap, arith}
use Rattle.std.proofs.lemmas.List.{length-drop, drop-drop}
use Rattle.std.specs.Int.Count.{count_leading_zeros}
use Rattle.gapcode.specs.Bits.{bits_of}
use Rattle.gapcode.proofs.WordsLemmas.{length-bits_of}
use Rattle.gapcode.proofs.GammaLemmas.{next_near}
use Rattle.gapcode.proofs.code.code_at.Goals as goal

pub returns-then-zeros-lt32-clause-exact : goal.returns-then-zeros-lt32-clause-exact
returns-then-zeros-lt32-clause-exact c =
    let bits = bits_of c.args.bytes.now in
    let w = c.next_word-front.result in
    let z = count_leading_zeros 64 w in
    let few : z < 32 = omega (arith, c.if-zeros-lt32.true) in
    let left = length-drop c.args.position bits in
    let all = length-bits_of c.args.bytes.now in
    let next = next_near w (drop c.args.position bits) (record { below = omega arith; digits = c.next_word-front.ensures }) (λ e. absurd (omega arith)) (omega arith) few in
    let at : c.args.position + (2 * z + 1) ≡ c.args.position + 2 * z + 1 = omega arith in
    ap (λ (k : ℕ). Ok (w / 2 ^ (63 - 2 * z), drop k bits)) (sym at) ∙ ap (λ (t : List Bool). Ok (w / 2 ^ (63 - 2 * z), t)) (sym (drop-drop (2 * z + 1) c.args.position bits)) ∙ sym next
