use Rattle.std.proofs.Common.{refl}
use Rattle.replica.specs.Relay.{shown_of}
use Rattle.replica.proofs.relay.Relay.new.Goals as goal

pub returns : goal.returns
unfolding shown_of
returns g c = refl
