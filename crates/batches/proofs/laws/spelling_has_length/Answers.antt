use Rattle.batches.proofs.WholeLemmas.{batch_length}
use Rattle.batches.proofs.laws.spelling_has_length.Goals as goal

pub returns : goal.returns
returns c = batch_length
