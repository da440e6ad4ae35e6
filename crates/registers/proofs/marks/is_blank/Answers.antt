use Rattle.std.proofs.Common.{◌≡◌, ◌+◌, false, get_or, arith, subst}
use Rattle.std.proofs.lemmas.Bool.{or_parts}
use Rattle.registers.specs.Marks.{AreBlank}
use Rattle.registers.proofs.MarkLemmas.{blank_more}
use Rattle.registers.proofs.marks.is_blank.Goals as goal

pub loop-k-init : goal.loop-k-init
loop-k-init c = λ none i low lt. absurd (omega arith)

pub loop-k-preserved : goal.loop-k-preserved
loop-k-preserved c = λ none.
    let i = c.args.from + c.loop-k.k in
    let both = or_parts c.loop-k.any (get_or c.args.marks.now i false) none in
    let e : i + 1 ≡ c.args.from + (c.loop-k.k + 1) = omega arith in
    subst (AreBlank c.args.marks.now c.args.from) e (blank_more c.args.marks.now c.args.from i (c.loop-k.invariant both.0) both.1)
