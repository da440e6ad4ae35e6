use Rattle.std.proofs.Common.{◌≡◌, ◌^◌, ℕ, List, take}
use Rattle.replica.specs.Spread.{rows_after_all, AreTouched, CanSpreadRows}
use Rattle.replica.proofs.spread.spread_batch.Given as goal

abbrev pub invariant-loop-k : goal.invariant-loop-k
invariant-loop-k l = record {
  rows : l.accumulated ≡ record l.initial.accumulated { rows = rows_after_all l.targets (take l.k l.batch.rows) l.initial.accumulated.rows };
  touched : (rows : List (List ℕ)) → AreTouched rows l.initial.accumulated.rows l.initial.touched → AreTouched rows l.accumulated.rows l.touched;
  can : CanSpreadRows l.targets (2 ^ l.batch.plan.log2m) l.accumulated l.touched;
}
