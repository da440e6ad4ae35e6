use Rattle.std.proofs.Common.{◌≤◌, ◌-◌}
use Rattle.report.specs.Parts.{lists_in, vertices_text}
use Rattle.ball_model.specs.Streams.{TextWritten}
use Rattle.report.proofs.write.put_lines.Given as goal

-- the lines of the vertices before `at` were written
abbrev pub invariant-loop-at : goal.invariant-loop-at
invariant-loop-at g l = record {
  low : l.vertices.start ≤ l.at;
  high : l.at ≤ l.vertices.end;
  written : TextWritten g.W.Write.contents g.W.CountedWrite.failed_calls l.initial.writer l.writer (vertices_text l.graph.labels l.block.first (lists_in l.block.parts.items) l.vertices.start (l.at - l.vertices.start));
}

abbrev pub decreases-loop-at : goal.decreases-loop-at
decreases-loop-at g l = l.vertices.end - l.at
