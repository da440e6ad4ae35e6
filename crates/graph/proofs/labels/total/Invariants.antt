use Rattle.std.proofs.Common.{◌≡◌, ◌+◌, ◌^◌, ◌<◌, length, drop}
use Rattle.std.specs.List.{sum_by}
use Rattle.graph.proofs.labels.total.Given as goal

abbrev pub invariant-loop-text : goal.invariant-loop-text
invariant-loop-text l = sum_by (λ text. length text.items) l.texts < 2 ^ 64 → l.sum + sum_by (λ text. length text.items) (drop l.text-index l.texts) ≡ sum_by (λ text. length text.items) l.texts
