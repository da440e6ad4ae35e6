use Rattle.batches.proofs.TrueLemmas.{true_is_batch}
use Rattle.batches.proofs.laws.true_is_batch.Goals as goal

pub returns : goal.returns
returns c = true_is_batch
