use Rattle.stored.proofs.LawLemmas.{one_spelling}
use Rattle.stored.proofs.laws.spelling_is_one.Goals as goal

pub returns : goal.returns
returns c = one_spelling
