use Rattle.stored.proofs.BlockLemmas.{blocks_all}
use Rattle.stored.proofs.laws.blocks_are_all.Goals as goal

pub returns : goal.returns
returns c = blocks_all
