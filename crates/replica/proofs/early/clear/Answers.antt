use Rattle.std.proofs.Common.{length, arith, ◌∙◌}
use Rattle.replica.proofs.Names.{None, arc_value, get_or_default}
use Rattle.replica.proofs.AheadLemmas.{all_none}
use Rattle.replica.proofs.early.clear.Goals as goal

pub returns : goal.returns
returns c = all_none arc_value c.loop-i.slots (length c.args.slots.now) c.loop-i.invariant.long
    (λ k d lt. get_or_default c.loop-i.slots k d None (omega (arith, c.loop-i.invariant.long)) ∙ c.loop-i.invariant.done k (omega (arith, c.loop-i-test.false)))
