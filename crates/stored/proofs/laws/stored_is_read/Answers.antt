use Rattle.stored.proofs.LawLemmas.{stored_again}
use Rattle.stored.proofs.laws.stored_is_read.Goals as goal

pub returns : goal.returns
returns c = stored_again
