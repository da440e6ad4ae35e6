use Rattle.std.proofs.lemmas.Result.{err_from_is_err_and}
use Rattle.job.proofs.JobLemmas.{read_edges, refuses_list}
use Rattle.job.specs.Job.{settings_of}
use Rattle.job.proofs.job.JobOptions.read_network_by.Goals as goal

pub returns-in_err-count_listed-clause-refused : goal.returns-in_err-count_listed-clause-refused
returns-in_err-count_listed-clause-refused g c =
    let p = err_from_is_err_and c.from_residual-in_err-count_listed.result c.from_residual-in_err-count_listed.ensures.1 in
    rw (p.1, p.2)
    (refuses_list (settings_of c.args.self.now) (g.S.Read.remaining c.args.reader.now) c.args.counted c.in_ok-read.read.graph c.in_err-count_listed.field-0.0
    c.in_ok-read.ensures.ok c.in_err-count_listed.ensures.refused)

pub returns-in_err-count_listed-clause-edges : goal.returns-in_err-count_listed-clause-edges
returns-in_err-count_listed-clause-edges g c =
    let p = err_from_is_err_and c.from_residual-in_err-count_listed.result c.from_residual-in_err-count_listed.ensures.1 in
    λ input is plain. rw (p.1) tt

pub returns-in_err-count_listed-clause-of_edges : goal.returns-in_err-count_listed-clause-of_edges
returns-in_err-count_listed-clause-of_edges g c =
    let p = err_from_is_err_and c.from_residual-in_err-count_listed.result c.from_residual-in_err-count_listed.ensures.1 in
    rw (p.1, p.2) (read_edges (settings_of c.args.self.now) (g.S.Read.remaining c.args.reader.now) c.in_ok-read.read.graph c.in_ok-read.ensures.ok)

pub returns-clause-edges : goal.returns-clause-edges
returns-clause-edges g c = read_edges (settings_of c.args.self.now) (g.S.Read.remaining c.args.reader.now) c.in_ok-read.read.graph c.in_ok-read.ensures.ok

pub returns-clause-network : goal.returns-clause-network
returns-clause-network g c = λ input is plain. record {
  all = c.in_ok-read.read.graph;
  read = c.in_ok-read.ensures.ok input is plain;
  labels = c.count_listed.ensures.labels;
  vertices = c.count_listed.ensures.vertices;
  edges = c.count_listed.ensures.edges;
}
