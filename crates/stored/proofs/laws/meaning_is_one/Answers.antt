use Rattle.stored.proofs.LawLemmas.{one_meaning}
use Rattle.stored.proofs.laws.meaning_is_one.Goals as goal

pub returns : goal.returns
returns c = one_meaning
