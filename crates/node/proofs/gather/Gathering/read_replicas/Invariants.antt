use Rattle.std.proofs.Common.{◌≡◌}
use Rattle.ball_model.specs.Job.{job_of}
use Rattle.node.specs.Gathering.{ReadsAll}
use Rattle.node.proofs.gather.Gathering.read_replicas.Given as goal

abbrev pub invariant-loop-p : goal.invariant-loop-p
invariant-loop-p g l = record {
  read : ReadsAll (job_of l.self.graph.now.graph l.self.plan.now) l.p (g.R.Read.remaining l.initial.reader) (g.R.Read.remaining l.reader) l.replicas.items;
  counted : g.R.CountedRead.failed_calls l.reader ≡ g.R.CountedRead.failed_calls l.initial.reader;
}
