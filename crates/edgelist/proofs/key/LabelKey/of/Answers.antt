use Rattle.std.proofs.Common.{arith}
use Rattle.edgelist.proofs.key.LabelKey.of.Goals as goal

pub returns-then-label-gt-SHORT : goal.returns-then-label-gt-SHORT
returns-then-label-gt-SHORT c = λ short. absurd (omega (arith, short.few, c.if-label-gt-SHORT.true))

pub returns : goal.returns
returns c = λ short. c.short_key.ensures
