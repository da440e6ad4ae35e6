use Rattle.std.proofs.Common.{◌∙◌, List, Bool, ◌+◌, ◌-◌, ◌++◌, append_assoc, ap, sym, refl, arith}
use Rattle.std.specs.Int.Count.{count_leading_zeros}
use Rattle.gapcode.specs.Bits.{digits, bits_of}
use Rattle.gapcode.proofs.AppendingLemmas.{gamma_split}
use Rattle.gapcode.proofs.writer.put_code.Goals as goal

pub put_digits-requires-clause-value : goal.put_digits-requires-clause-value
put_digits-requires-clause-value c = (gamma_split c.args.x (63 - count_leading_zeros 64 c.args.x) c.requires.x (omega arith) refl).1

pub returns-clause-bits : goal.returns-clause-bits
returns-clause-bits c =
    let z = 63 - count_leading_zeros 64 c.args.x in
    let start = bits_of c.args.full.now.items ++ digits c.args.used c.args.last in
    let code = (gamma_split c.args.x z c.requires.x (omega arith) refl).0 in
    c.put_digits.ensures.bits ∙ ap (λ (t : List Bool). t ++ digits (z + 1) c.args.x) c.put_digits-last.ensures.bits
    ∙ append_assoc start (digits z 0) (digits (z + 1) c.args.x) ∙ ap (λ (t : List Bool). start ++ t) (sym code)
