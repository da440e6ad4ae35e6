use Rattle.std.proofs.Common.{◌≤◌, ◌-◌}
use Rattle.report.specs.Parts.{lines_between}
use Rattle.ball_model.specs.Streams.{TextWritten}
use Rattle.report.proofs.write.put_vertices.Given as goal

-- the lines of the vertices before `from` were written
abbrev pub invariant-loop-from : goal.invariant-loop-from
invariant-loop-from g l = record {
  place : l.from ≤ l.graph.graph.vertices;
  written : TextWritten g.W.Write.contents g.W.CountedWrite.failed_calls l.initial.writer l.writer (lines_between l.graph.labels l.replicas 0 l.from);
}

abbrev pub decreases-loop-from : goal.decreases-loop-from
decreases-loop-from g l = l.count - l.from
