use Rattle.std.proofs.Common.{◌≡◌, map}
use Rattle.std.specs.List.{range_with_len}
use Rattle.report.specs.Parts.{total_in}
use Rattle.report.proofs.parts.totals.Given as goal

abbrev pub invariant-loop-i : goal.invariant-loop-i
invariant-loop-i l = record {
  made : l.totals.items ≡ map (λ i. total_in l.replicas i) (range_with_len 0 l.i);
}
