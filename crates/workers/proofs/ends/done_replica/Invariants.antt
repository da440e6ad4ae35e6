use Rattle.std.proofs.Common.{◌≡◌}
use Rattle.std.specs.Vec.Iter.{into_iter_items}
use Rattle.workers.specs.Ends.{first_done, first_some}
use Rattle.workers.proofs.ends.done_replica.Given as goal

abbrev pub invariant-loop-end : goal.invariant-loop-end
invariant-loop-end l = first_some l.done (first_done (into_iter_items l.end-iterator)) ≡ first_done l.fn.ends.items
