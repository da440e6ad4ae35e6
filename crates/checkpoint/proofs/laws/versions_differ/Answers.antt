use Rattle.checkpoint.proofs.LawLemmas.{versions_differ}
use Rattle.checkpoint.proofs.laws.versions_differ.Goals as goal

pub returns : goal.returns
returns c = versions_differ
