use Rattle.std.proofs.Common.{arith}
use Rattle.checkpoint.proofs.LengthLemmas.{batch_few}
use Rattle.checkpoint.proofs.length.batch_length.Goals as goal

pub returns-clause-few : goal.returns-clause-few
returns-clause-few c = omega (arith, c.length.ensures.value, batch_few c.args.batch.now c.limits.ensures)
