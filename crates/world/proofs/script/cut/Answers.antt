use Rattle.std.proofs.Common.{◌∙◌, sym, ap, take, arith, Some, ◌+◌}
use Rattle.world.proofs.ScriptLemmas.{cut-ended, cut-further, cut-here, whole_rest}
use Rattle.world.proofs.script.cut.Goals as goal

pub returns-then-text-i : goal.returns-then-text-i
returns-then-text-i c =
    let text = c.args.text.now in
    let i = c.loop-i.i in
    sym (c.loop-i.invariant ∙ cut-here text i c.args.byte c.loop-i-test.true c.if-text-i.true ∙ ap (λ l. Some (take i text, l)) (sym (whole_rest text (i + 1) (omega arith))))

pub loop-i-preserved : goal.loop-i-preserved
loop-i-preserved c = c.loop-i.invariant ∙ cut-further c.args.text.now c.loop-i.i c.args.byte c.loop-i-test.true c.if-text-i.false

pub returns : goal.returns
returns c = sym (c.loop-i.invariant ∙ cut-ended c.args.text.now c.loop-i.i c.args.byte c.loop-i-test.false)
