use Rattle.checkpoint.proofs.LawLemmas.{first_text_tells_rest}
use Rattle.checkpoint.proofs.laws.first_text_tells_rest.Goals as goal

pub returns : goal.returns
returns c = first_text_tells_rest
