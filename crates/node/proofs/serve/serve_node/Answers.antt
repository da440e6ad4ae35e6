use Rattle.std.proofs.Common.{◌∙◌}
use Rattle.job.specs.Job.{settings_of}
use Rattle.node.proofs.NodeLemmas.{no_node, not_unread}
use Rattle.node.proofs.serve.serve_node.Goals as goal

pub returns-clause-served : goal.returns-clause-served
returns-clause-served g c =
    c.serve_part-served.ensures.served (settings_of c.args.job.now.options) c.args.job.now.counted (g.R.Read.remaining c.args.reader.now) c.in_ok-graph.ensures.read

pub returns-clause-stopped : goal.returns-clause-stopped
returns-clause-stopped g c =
    c.serve_part-served.ensures.stopped (settings_of c.args.job.now.options) c.args.job.now.counted (g.R.Read.remaining c.args.reader.now) c.in_ok-graph.ensures.read

pub returns-clause-refused : goal.returns-clause-refused
returns-clause-refused g c =
    no_node (settings_of c.args.job.now.options) c.args.job.now.counted c.args.part (g.R.Read.remaining c.args.reader.now) _ (g.R.Read.remaining c.serve_part-served.new.reader)
    c.in_ok-graph.graph c.in_ok-graph.plan c.serve_part-served.result
    c.in_ok-graph.ensures.read c.serve_part-served.ensures.same c.serve_part-served.ensures.refused

pub returns-clause-unread : goal.returns-clause-unread
returns-clause-unread g c = λ is. absurd (not_unread c.args.part c.in_ok-graph.plan c.serve_part-served.result c.serve_part-served.ensures.refused is)

pub returns-clause-counted : goal.returns-clause-counted
returns-clause-counted g c = λ other none. c.serve_part-served.ensures.read.none other ∙ c.in_ok-graph.ensures.counted (λ e. absurd (cc))

pub returns-clause-wanting : goal.returns-clause-wanting
returns-clause-wanting g c =
    c.serve_part-served.ensures.wanting (settings_of c.args.job.now.options) c.args.job.now.counted (g.R.Read.remaining c.args.reader.now) c.in_ok-graph.ensures.read
