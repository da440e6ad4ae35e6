use Rattle.world.proofs.NodeLemmas.{start_shows}
use Rattle.world.proofs.node.started.Goals as goal

pub returns-clause-shows : goal.returns-clause-shows
returns-clause-shows c = λ j p job below is.
    start_shows j p c.in_ok-replica.replica (c.in_ok-replica.ensures.stands j p job below is) c.in_ok-replica.ensures.names c.limits.ensures.state
