use Rattle.world.proofs.OrderLemmas.{any_order}
use Rattle.world.proofs.laws.recovers_in_any_order.Goals as goal

pub returns : goal.returns
returns c = any_order
