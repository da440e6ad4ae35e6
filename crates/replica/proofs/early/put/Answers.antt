use Rattle.replica.proofs.Names.{map-set, Some, arc_value}
use Rattle.std.proofs.Common.{option_map}
use Rattle.replica.proofs.early.put.Goals as goal

pub returns : goal.returns
returns c = map-set (option_map arc_value) c.args.slots.now c.args.place (Some c.args.batch)
