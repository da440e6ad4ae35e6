use Rattle.std.proofs.Common.{◌≡◌, length, map, take}
use Rattle.graph.specs.Lists.{Ascend, lists_between}
use Rattle.graph.proofs.labels.put_texts.Given as goal

abbrev pub invariant-loop-text : goal.invariant-loop-text
invariant-loop-text l = record {
  starts : Ascend (length l.bytes.items) l.starts;
  labels : lists_between l.bytes.items l.starts ≡ map (λ text. text.items) (take l.text-index l.texts);
}
