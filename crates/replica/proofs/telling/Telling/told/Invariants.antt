use Rattle.replica.specs.Sent.{IsToldBefore}
use Rattle.replica.proofs.telling.Telling.told.Given as goal

abbrev pub invariant-loop-k : goal.invariant-loop-k
invariant-loop-k l = IsToldBefore l.self l.k l.told.ids.items l.told.places.items l.told.changed
