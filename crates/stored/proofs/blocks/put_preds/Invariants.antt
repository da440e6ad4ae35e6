use Rattle.std.proofs.Common.{◌≡◌, ◌++◌}
use Rattle.stored.proofs.blocks.put_preds.Given as goal

abbrev pub invariant-loop-y : goal.invariant-loop-y
invariant-loop-y l = record {
  left : l.fn.preds ≡ l.yielded ++ l.y-iterator;
  items : l.row.items ≡ l.yielded;
}
