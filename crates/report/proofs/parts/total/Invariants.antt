use Rattle.std.proofs.Common.{◌≡◌, ◌-◌, ◌^◌, min, slice_index, take}
use Rattle.std.specs.List.{sum_by}
use Rattle.report.proofs.parts.total.Given as goal

abbrev pub invariant-loop-replica : goal.invariant-loop-replica
invariant-loop-replica l = record {
  sum : l.sum ≡ min (sum_by (λ v. slice_index v.sums l.i) (take l.replica-index l.replicas)) (2 ^ 128 - 1);
}
