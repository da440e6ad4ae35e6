use Rattle.std.proofs.Common.{◌≡◌}
use Rattle.node.specs.Serving.{ServesSome}
use Rattle.node.proofs.serve.Server.serve_commands.Given as goal

abbrev pub invariant-loop-i : goal.invariant-loop-i
invariant-loop-i g l = record {
  some : ServesSome l.self.graph.now l.i (g.R.Read.remaining l.initial.reader) (g.R.Read.remaining l.reader) l.initial.session l.session
      (g.W.Write.contents l.initial.writer) (g.W.Write.contents l.writer);
  part : l.session.part ≡ l.initial.session.part;
  counted : g.R.CountedRead.failed_calls l.reader ≡ g.R.CountedRead.failed_calls l.initial.reader;
  written : g.W.CountedWrite.failed_calls l.writer ≡ g.W.CountedWrite.failed_calls l.initial.writer;
}
