use Rattle.std.proofs.Common.{◌≡◌, length}
use Rattle.base_tests.proofs.of_registers.nine_rows.Given as goal

abbrev pub invariant-loop-index : goal.invariant-loop-index
invariant-loop-index l = record { count : length l.rows.rows ≡ 9; width : l.rows.width ≡ l.width }

abbrev pub invariant-loop-k : goal.invariant-loop-k
invariant-loop-k l = record { count : length l.rows.rows ≡ 9; width : l.rows.width ≡ l.width }

abbrev pub invariant-loop-index-2 : goal.invariant-loop-index-2
invariant-loop-index-2 l = record { count : length l.rows.rows ≡ 9; width : l.rows.width ≡ l.width }
