use Rattle.checkpoint.proofs.LawLemmas.{text_is_one}
use Rattle.checkpoint.proofs.laws.text_is_one.Goals as goal

pub returns : goal.returns
returns c = text_is_one
