use Rattle.world.proofs.RunLemmas.{messages_true}
use Rattle.world.proofs.laws.messages_are_true.Goals as goal

pub returns : goal.returns
returns c = messages_true
