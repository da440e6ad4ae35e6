use Rattle.std.proofs.Common.{◌≡◌, ◌++◌, drop}
use Rattle.gapcode.specs.Lists.{list_bits, AscendsFrom}
use Rattle.gapcode.proofs.SpelledLemmas.{coded}
use Rattle.stored.proofs.blocks.put_list.Given as goal

abbrev pub invariant-loop-x : goal.invariant-loop-x
invariant-loop-x l = record {
  so_far : l.writer ++ coded l.least (drop l.x-index l.list) ≡ l.fn.writer ++ list_bits l.list;
  ascend : AscendsFrom l.least (drop l.x-index l.list);
}
