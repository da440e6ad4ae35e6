use Rattle.node.proofs.ServeLemmas.{node_stops, node_wants, serves_node}
use Rattle.node.proofs.serve.Server.serve_part.Goals as goal

pub returns-in-Ok-clause-served : goal.returns-in-Ok-clause-served
returns-in-Ok-clause-served g c = λ s counted left read.
    serves_node s counted c.args.part c.args.self.now.graph.now c.args.plan.now
    left (g.R.Read.remaining c.args.reader.now) (g.R.Read.remaining c.serve_commands-served.new.reader)
    (g.W.Write.contents c.args.writer.now) (g.W.Write.contents c.serve_commands-served.new.writer)
    c.in_ok-session.session c.serve_commands-served.new.session
    read c.in_ok-session.ensures.part c.in_ok-session.ensures.start c.in-Ok.ensures.ok

pub returns-in-Err-clause-stopped : goal.returns-in-Err-clause-stopped
returns-in-Err-clause-stopped g c = λ s counted left read.
    node_stops s counted c.args.part c.args.self.now.graph.now c.args.plan.now
    left (g.R.Read.remaining c.args.reader.now) (g.R.Read.remaining c.serve_commands-served.new.reader)
    (g.W.Write.contents c.args.writer.now) (g.W.Write.contents c.serve_commands-served.new.writer)
    c.in_ok-session.session c.serve_commands-served.new.session _
    read c.in_ok-session.ensures.part c.in_ok-session.ensures.start c.in-Err.ensures.stopped

pub returns-in-Err-clause-wanting : goal.returns-in-Err-clause-wanting
returns-in-Err-clause-wanting g c = λ s counted left read is.
    node_wants s counted c.args.part c.args.self.now.graph.now c.args.plan.now
    left (g.R.Read.remaining c.args.reader.now) (g.R.Read.remaining c.serve_commands-served.new.reader)
    c.in_ok-session.session read c.in_ok-session.ensures.part c.in_ok-session.ensures.start (c.serve_commands-served.ensures.wanting (cc))
