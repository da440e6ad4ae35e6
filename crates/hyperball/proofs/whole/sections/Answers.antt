use Rattle.std.proofs.Common.{◌∙◌, sym}
use Rattle.hyperball.proofs.WholeLemmas.{ended, found_here, further}
use Rattle.hyperball.proofs.whole.sections.Goals as goal

pub returns-in-Some : goal.returns-in-Some
returns-in-Some c = sym (c.loop-i.invariant ∙ found_here c.args.input.now c.in-Some.rest.now c.loop-i.i c.loop-i.begins c.loop-i-test.true c.in-Some.ensures)

pub loop-i-preserved : goal.loop-i-preserved
loop-i-preserved c = c.loop-i.invariant ∙ further c.args.input.now c.loop-i.i c.loop-i.begins c.loop-i-test.true c.in-None.ensures

pub returns : goal.returns
returns c = sym (c.loop-i.invariant ∙ ended c.args.input.now c.loop-i.i c.loop-i.begins c.loop-i-test.false)
