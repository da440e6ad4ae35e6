use Rattle.std.proofs.lemmas.Result.{IfErr-at_err, err_from_is_err_and}
use Rattle.ball_model.specs.Job.{Job, job_of, part_of}
use Rattle.node.specs.NoReport.{IsNoReplica}
use Rattle.node.specs.declared.error.GatherError.TheVariants as fault
use Rattle.node.proofs.GatherLemmas.{read_lacks, reads_added, stops_at}
use Rattle.node.proofs.gather.Gathering.add_replica.Goals as goal

pub returns-clause-read : goal.returns-clause-read
returns-clause-read g c = λ left before.
    reads_added (job_of c.args.self.now.graph.now.graph c.args.self.now.plan.now) c.args.p left (g.R.Read.remaining c.args.reader.now) (g.R.Read.remaining c.read_replica.new.reader)
    c.args.replicas.now.items _ c.in_ok-replica.replica c.in_ok-put.ensures before c.in_ok-replica.ensures.read

pub returns-in_err-replica-clause-refused : goal.returns-in_err-replica-clause-refused
returns-in_err-replica-clause-refused g c = λ left before.
    let j : Job = job_of c.args.self.now.graph.now.graph c.args.self.now.plan.now in
    let p = err_from_is_err_and c.from_residual.result c.from_residual.ensures.1 in
    rw (p.1, p.2)
    (stops_at j c.args.p left (g.R.Read.remaining c.args.reader.now) (g.R.Read.remaining c.read_replica.new.reader) c.args.replicas.now.items _ c.requires.below before c.in_err-replica.ensures.refused)

pub returns-in_err-replica-clause-unwritten : goal.returns-in_err-replica-clause-unwritten
returns-in_err-replica-clause-unwritten g c =
    let j : Job = job_of c.args.self.now.graph.now.graph c.args.self.now.plan.now in
    let p = err_from_is_err_and c.from_residual.result c.from_residual.ensures.1 in
    λ is. IfErr-at_err (IsNoReplica (part_of j c.args.p) (g.R.Read.remaining c.args.reader.now) (g.R.Read.remaining c.read_replica.new.reader)) is
    (rw (p.1, p.2) c.in_err-replica.ensures.refused)

pub returns-in_err-put-clause-refused : goal.returns-in_err-put-clause-refused
returns-in_err-put-clause-refused g c = λ left before.
    let j : Job = job_of c.args.self.now.graph.now.graph c.args.self.now.plan.now in
    let p = err_from_is_err_and c.from_residual-in_err-put.result c.from_residual-in_err-put.ensures.1 in
    rw (p.1, p.2)
    (stops_at j c.args.p left (g.R.Read.remaining c.args.reader.now) (g.R.Read.remaining c.read_replica.new.reader) c.args.replicas.now.items fault.Memory c.requires.below before
    (read_lacks j c.args.p (g.R.Read.remaining c.args.reader.now) (g.R.Read.remaining c.read_replica.new.reader) c.in_ok-replica.replica c.in_ok-replica.ensures.read))
