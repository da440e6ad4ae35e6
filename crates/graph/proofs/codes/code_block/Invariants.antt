use Rattle.std.proofs.Common.{◌≡◌, ◌≤◌, drop, length, take}
use Rattle.std.specs.Prelude.{reverse}
use Rattle.graph.specs.Codes.{sources_between}
use Rattle.graph.specs.Edges.{below}
use Rattle.graph.proofs.codes.code_block.Given as goal

abbrev pub invariant-loop-target : goal.invariant-loop-target
invariant-loop-target l = record {
  lists : l.builder ≡ sources_between l.block.count (reverse l.block.edges.now) l.block.from l.target;
  rest : reverse (take l.left l.block.edges.now) ≡ drop (below (reverse l.block.edges.now) l.target) (reverse l.block.edges.now);
  inside : l.left ≤ length l.block.edges.now;
  reached : l.block.from ≤ l.target;
}
