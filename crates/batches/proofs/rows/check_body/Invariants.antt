use Rattle.std.proofs.Common.{◌≡◌, ◌+◌, ◌-◌, ◌*◌, ◌^◌, ◌≤◌, length}
use Rattle.batches.specs.Kept.{first_rows}
use Rattle.batches.specs.Reading.{check_rows}
use Rattle.batches.proofs.rows.check_body.Given as goal

abbrev pub invariant-loop : goal.invariant-loop
invariant-loop l = record {
  so_far : check_rows l.plan l.source l.least (first_rows (2 ^ l.plan.log2m) (l.count - l.counter) l.rest) ≡ check_rows l.plan l.source 0 (first_rows (2 ^ l.plan.log2m) l.count l.body);
  room : (l.count - l.counter) * (4 + 2 ^ l.plan.log2m) ≤ length l.rest;
}
