use Rattle.std.proofs.Common.{refl}
use Rattle.gapcode.specs.Places.{places_from}
use Rattle.gapcode.proofs.places.Places.with_room.Goals as goal

pub returns : goal.returns
unfolding places_from
returns c = rw c.in_ok-with_capacity.ensures.items refl
