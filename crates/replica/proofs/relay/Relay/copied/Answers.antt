use Rattle.replica.specs.Relay.{shown_of}
use Rattle.replica.proofs.relay.Relay.copied.Goals as goal

pub returns-clause-copy : goal.returns-clause-copy
unfolding shown_of
returns-clause-copy g c = c.in_ok-table.ensures.shared
