use Rattle.std.proofs.Common.{◌∙◌, ℕ, ◌-◌, ◌*◌, ◌/◌, ◌%◌, ◌<◌, length, get_or, sym, ap, arith}
use Rattle.std.specs.Prelude.{bit_and}
use Rattle.std.proofs.lemmas.Nat.{one_shl, and_mask}
use Rattle.gapcode.proofs.WalkLemmas.{padding_is, no_padding}
use Rattle.gapcode.proofs.check.padding.Goals as goal

pub returns-then-pad-eq0 : goal.returns-then-pad-eq0
returns-then-pad-eq0 c = no_padding _ _ c.if-pad-eq0.true

pub returns : goal.returns
returns c =
    let bytes = c.args.bytes.now in
    let p = c.args.place in
    let pad = (8 * length bytes - p) % 8 in
    let b = get_or bytes (p / 8) 0 in
    let small : pad < 8 = omega arith in
    let some : 0 < pad = omega (arith, c.if-pad-eq0.false) in
    ap (λ (k : ℕ). bit_and b (k - 1)) (one_shl pad 8 small) ∙ and_mask b pad ∙ sym (padding_is bytes p pad some (omega (arith, some)) (omega (arith, some)))
