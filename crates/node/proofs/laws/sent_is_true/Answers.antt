use Rattle.node.proofs.LawLemmas.{sent_true}
use Rattle.node.proofs.laws.sent_is_true.Goals as goal

pub returns : goal.returns
returns c = sent_true
