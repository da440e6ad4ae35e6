use Rattle.std.proofs.lemmas.Result.{err_from_is_err_and}
use Rattle.job.specs.Job.{numbers_asked, settings_of}
use Rattle.job.proofs.InputLemmas.{planned, unplanned}
use Rattle.job.proofs.input.read_job.Goals as goal

pub returns-clause-read : goal.returns-clause-read
returns-clause-read g c = record {
  all = c.in_ok-read.read.graph;
  mid = g.R.Read.remaining c.read_edge_section.new.reader;
  edges = c.in_ok-read.ensures.says;
  list = c.in_ok-count_section.ensures.counts;
  planned = planned (numbers_asked c.args.job.now.options) c.count_section.new.graph c.in_ok-plan.plan c.in_ok-plan.ensures.value;
}

pub returns-in_err-plan-clause-refused : goal.returns-in_err-plan-clause-refused
returns-in_err-plan-clause-refused g c =
    let p = err_from_is_err_and c.from_residual-in_err-plan.result c.from_residual-in_err-plan.ensures.1 in
    rw (p.1, p.2)
    (unplanned (settings_of c.args.job.now.options) c.args.job.now.counted (g.R.Read.remaining c.args.reader.now) (g.R.Read.remaining c.read_edge_section.new.reader) (g.R.Read.remaining c.count_section.new.reader)
    c.in_ok-read.read.graph c.count_section.new.graph _ c.in_ok-read.ensures.says c.in_ok-count_section.ensures.counts c.in_err-plan.ensures.refused)
