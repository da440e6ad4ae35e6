use Rattle.std.proofs.Common.{◌≡◌, ◌*◌, ◌^◌, ◌≤◌, length, take}
use Rattle.std.specs.List.{AllByRecursion}
use Rattle.stored.specs.Stored.{IsLabel, label_lines}
use Rattle.stored.proofs.write.text_len.Given as goal

abbrev pub invariant-loop-v : goal.invariant-loop-v
invariant-loop-v l = record {
  so_far : l.sum ≡ length (label_lines (take l.v l.graph.labels));
  few : l.sum ≤ l.v * 2 ^ 65;
  labels : AllByRecursion IsLabel (take l.v l.graph.labels);
}
