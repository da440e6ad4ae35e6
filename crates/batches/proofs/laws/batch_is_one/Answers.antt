use Rattle.batches.proofs.WholeLemmas.{batch_is_one}
use Rattle.batches.proofs.laws.batch_is_one.Goals as goal

pub returns : goal.returns
returns c = batch_is_one
