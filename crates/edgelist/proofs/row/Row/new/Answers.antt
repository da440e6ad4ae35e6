use Rattle.std.proofs.Common.{refl}
use Rattle.edgelist.proofs.GuessLemmas.{no-key}
use Rattle.edgelist.proofs.row.Row.new.Goals as goal

pub invariant_of-result : goal.invariant_of-result
invariant_of-result c = (no-key _ 0 c.none.result c.new.ensures.fields, no-key _ 1 c.none-2.result c.new.ensures.fields, rw c.new.ensures.fields refl)
