use Rattle.std.proofs.Common.{◌≡◌, not, take}
use Rattle.replica.proofs.Names.{bytes_eq, max_each}
use Rattle.replica.specs.Pull.{raised_over, rows_at}
use Rattle.replica.proofs.pull.raise_by_each.Given as goal

abbrev pub invariant-loop-place : goal.invariant-loop-place
invariant-loop-place l = record {
  row : l.row ≡ raised_over l.initial.row (rows_at l.rows.rows (take l.place-index l.places));
  above : max_each l.initial.row l.row ≡ l.row;
  raised : l.raised ≡ not (bytes_eq l.row l.initial.row);
}
