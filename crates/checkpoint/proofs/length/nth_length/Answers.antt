use Rattle.std.proofs.Common.{length, ap, arith}
use Rattle.checkpoint.proofs.TextLemmas.{nth_some, nth_none}
use Rattle.checkpoint.proofs.length.nth_length.Goals as goal

pub returns-in-Some-clause-value : goal.returns-in-Some-clause-value
returns-in-Some-clause-value c =
    let text = ap length (nth_some c.args.replica.now c.args.i c.in-Some.batch.now c.in-Some.ensures.value) in
    omega (arith, c.batch_length.ensures.value, text)

pub returns-in-None-clause-value : goal.returns-in-None-clause-value
returns-in-None-clause-value c = ap length (nth_none c.args.replica.now c.args.i c.in-None.ensures.value)
