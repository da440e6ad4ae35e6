use Rattle.std.proofs.Common.{◌≡◌, ◌<◌, ◌++◌, [], not, length, slice_index_or, take}
use Rattle.replica.proofs.Names.{All, bytes_eq, max_each}
use Rattle.replica.specs.Pull.{raised_over, rows_at, told_rows}
use Rattle.replica.proofs.pull.pull_row.Given as goal

abbrev pub invariant-loop-z : goal.invariant-loop-z
invariant-loop-z l = record {
  left : slice_index_or l.part.preds l.i [] ≡ l.yielded ++ l.z-iterator;
  few : l.count < 8;
  long : length l.waiting ≡ 8;
  inside : All (λ place. place < length l.rows.rows) (take l.count l.waiting);
  row : raised_over l.row (rows_at l.rows.rows (take l.count l.waiting)) ≡ raised_over l.initial.row (told_rows l.part.plan.parts l.part.number l.rows.rows l.marks l.yielded);
  above : max_each l.initial.row l.row ≡ l.row;
  raised : l.raised ≡ not (bytes_eq l.row l.initial.row);
}
