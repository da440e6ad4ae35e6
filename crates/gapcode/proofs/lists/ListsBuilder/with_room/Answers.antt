use Rattle.gapcode.proofs.IndexLemmas.{none_indexed}
use Rattle.gapcode.proofs.lists.ListsBuilder.with_room.Goals as goal

pub invariant_of-result : goal.invariant_of-result
invariant_of-result c = (none_indexed c.new.result c.in_ok-with_room.field-0 c.new.ensures c.in_ok-with_room.ensures).0

pub returns : goal.returns
returns c = (none_indexed c.new.result c.in_ok-with_room.field-0 c.new.ensures c.in_ok-with_room.ensures).1
