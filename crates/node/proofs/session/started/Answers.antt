use Rattle.node.proofs.SessionLemmas.{start_has}
use Rattle.node.proofs.session.started.Goals as goal

pub returns-clause-start : goal.returns-clause-start
returns-clause-start c = λ j p job below part.
    start_has j p c.in_ok-replica.replica (c.in_ok-replica.ensures.stands j p job below part) c.in_ok-replica.ensures.names c.limits.ensures.state
