use Rattle.std.proofs.lemmas.Result.{on_ok_weaker, IfErr-at_err, IfErr-weaker, err_from_is_err_and, on_err_weaker}
use Rattle.ball_model.specs.Job.{job_of}
use Rattle.node.specs.Gathering.{Gathers}
use Rattle.std.proofs.Common.{refl, inl, inr}
use Rattle.job.specs.Job.{settings_of}
use Rattle.node.specs.NoReport.{HasNoReport, IsNoReport, WritesFront}
use Rattle.node.proofs.GatherLemmas.{front_of_job}
use Rattle.node.proofs.gather.gather.Goals as goal

pub returns-clause-ok : goal.returns-clause-ok
returns-clause-ok g c =
    on_ok_weaker c.gather_parts-gathered.result
    (λ (gathers : Gathers (job_of c.in_ok-graph.graph.graph c.in_ok-graph.plan) c.in_ok-graph.graph.labels (g.R.Read.remaining c.read_job.new.reader) (g.R.Read.remaining c.gather_parts-gathered.new.reader)
    (g.W.Write.contents c.args.writer.now) (g.W.Write.contents c.gather_parts-gathered.new.writer)). record {
      network = c.in_ok-graph.graph;
      plan = c.in_ok-graph.plan;
      mid = g.R.Read.remaining c.read_job.new.reader;
      job = c.in_ok-graph.ensures.read;
      gathers = gathers;
    })
    c.gather_parts-gathered.ensures.ok

pub returns-in_err-graph-clause-refused : goal.returns-in_err-graph-clause-refused
returns-in_err-graph-clause-refused g c =
    let p = err_from_is_err_and c.from_residual.result c.from_residual.ensures.1 in
    rw (p.1, p.2) (inl (_, refl, c.in_err-graph.ensures.refused))

pub returns-clause-refused : goal.returns-clause-refused
returns-clause-refused g c =
    IfErr-weaker c.gather_parts-gathered.result
    (IsNoReport (job_of c.in_ok-graph.graph.graph c.in_ok-graph.plan) (g.R.Read.remaining c.read_job.new.reader) (g.R.Read.remaining c.gather_parts-gathered.new.reader))
    (HasNoReport (settings_of c.args.job.now.options) c.args.job.now.counted (g.R.Read.remaining c.args.reader.now) (g.R.Read.remaining c.gather_parts-gathered.new.reader))
    (λ e refused. inr (record {
      network = c.in_ok-graph.graph;
      plan = c.in_ok-graph.plan;
      mid = g.R.Read.remaining c.read_job.new.reader;
      job = c.in_ok-graph.ensures.read;
      refused = refused;
    }))
    c.gather_parts-gathered.ensures.refused

pub returns-clause-front : goal.returns-clause-front
returns-clause-front g c =
    on_err_weaker c.gather_parts-gathered.result
    (λ (front : WritesFront (job_of c.in_ok-graph.graph.graph c.in_ok-graph.plan) c.in_ok-graph.graph.labels (g.R.Read.remaining c.read_job.new.reader) (g.R.Read.remaining c.gather_parts-gathered.new.reader)
    (g.W.Write.contents c.args.writer.now) (g.W.Write.contents c.gather_parts-gathered.new.writer)).
    front_of_job (settings_of c.args.job.now.options) c.args.job.now.counted c.in_ok-graph.graph c.in_ok-graph.plan
    (g.R.Read.remaining c.args.reader.now) (g.R.Read.remaining c.read_job.new.reader) (g.R.Read.remaining c.gather_parts-gathered.new.reader)
    (g.W.Write.contents c.args.writer.now) (g.W.Write.contents c.gather_parts-gathered.new.writer) c.in_ok-graph.ensures.read front)
    c.gather_parts-gathered.ensures.front

pub returns-clause-unread : goal.returns-clause-unread
returns-clause-unread g c = λ is.
    absurd (IfErr-at_err (IsNoReport (job_of c.in_ok-graph.graph.graph c.in_ok-graph.plan) (g.R.Read.remaining c.read_job.new.reader) (g.R.Read.remaining c.gather_parts-gathered.new.reader)) is c.gather_parts-gathered.ensures.refused)
