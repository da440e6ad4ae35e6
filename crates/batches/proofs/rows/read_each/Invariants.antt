use Rattle.std.proofs.Common.{◌≡◌, ◌+◌, ◌-◌, ◌*◌, ◌++◌, length}
use Rattle.batches.specs.Kept.{first_rows, paired_rows}
use Rattle.batches.proofs.rows.read_each.Given as goal

abbrev pub invariant-loop : goal.invariant-loop
invariant-loop l = record {
  so_far : paired_rows l.width l.ids.items l.registers.items ++ first_rows l.width (l.count - l.counter) l.rest ≡ first_rows l.width l.count l.body;
  room : length l.registers.items ≡ length l.ids.items * l.width;
  whole : length l.rest ≡ (l.count - l.counter) * (4 + l.width);
}
