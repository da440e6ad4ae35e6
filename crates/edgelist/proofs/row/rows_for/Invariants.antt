use Rattle.std.proofs.Common.{◌≡◌, length}
use Rattle.edgelist.proofs.row.rows_for.Given as goal

abbrev pub invariant-loop-i : goal.invariant-loop-i
invariant-loop-i l = length l.rows.items ≡ l._i
