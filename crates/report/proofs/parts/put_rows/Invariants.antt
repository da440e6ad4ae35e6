use Rattle.std.proofs.Common.{◌≡◌, ◌++◌, ◌-◌}
use Rattle.report.specs.Parts.{lists_in, vertices_text}
use Rattle.report.specs.Rows.{AtRow, text_in}
use Rattle.report.proofs.parts.put_rows.Given as goal

abbrev pub invariant-loop-x : goal.invariant-loop-x
invariant-loop-x l = record {
  row : AtRow l.rows;
  text : text_in l.rows ≡ text_in l.initial.rows ++ vertices_text l.graph.labels l.block.first (lists_in l.block.parts.items) l.fn.vertices.start (l.x - l.fn.vertices.start);
}
