use Rattle.std.proofs.Common.{◌≡◌, ◌-◌, ◌≤◌, take, drop}
use Rattle.stored.specs.Stored.{code_of, stored_of}
use Rattle.stored.proofs.BlockLemmas.{Begins}
use Rattle.stored.proofs.blocks.block_from.Given as goal

abbrev pub invariant-loop-to : goal.invariant-loop-to
invariant-loop-to l = record {
  order : l.from ≤ l.to;
  within : l.to ≤ l.graph.graph.vertices;
  bits : l.writer ≡ code_of (take (l.to - l.from) (drop l.from (stored_of l.graph).preds));
  begins : Begins (drop l.from (stored_of l.graph).preds) (l.to - l.from);
}

abbrev pub decreases-loop-to : goal.decreases-loop-to
decreases-loop-to l = l.graph.graph.vertices - l.to
