use Rattle.std.proofs.Common.{◌≡◌, ◌<◌, length, get_or, arith}
use Rattle.replica.proofs.Names.{get_or-set_same, get_or-set_other}
use Rattle.replica.proofs.SpreadLemmas.{seen_rises}
use Rattle.replica.proofs.spread.mark_seen.Goals as goal

pub loop-place-preserved : goal.loop-place-preserved
loop-place-preserved c =
    let k = c.loop-place.place-index in
    let p = get_or c.args.places.now k 0 in
    let inside : p < length c.args.accumulated.now.rows = c.requires.inside k 0 c.loop-place-test.true in
    let long : length c.loop-place.touched ≡ length c.args.accumulated.now.rows = omega (arith, c.loop-place.auto.touched, c.requires.marks) in
    λ i lt. grind (arith, get_or-set_same, seen_rises, get_or-set_other)
