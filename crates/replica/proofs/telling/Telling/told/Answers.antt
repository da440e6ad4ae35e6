use Rattle.std.proofs.Common.{refl}
use Rattle.replica.proofs.SentLemmas.Telling.{told_begin}
use Rattle.replica.proofs.SentLemmas.Told.{told_none}
use Rattle.replica.proofs.telling.Telling.told.Goals as goal

pub loop-k-init : goal.loop-k-init
loop-k-init c =
    let t = c.args.self.now in
    let ids = c.in_ok-with_capacity.field-0.items in
    let places = c.in_ok-with_capacity-2.field-0.items in
    told_begin _ t 0 ids places c.self.view_is c.self.invariant (told_none t.state t.target 0 ids places c.in_ok-with_capacity.ensures.items c.in_ok-with_capacity-2.ensures.items refl)
