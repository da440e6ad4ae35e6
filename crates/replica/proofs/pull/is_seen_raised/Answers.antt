use Rattle.replica.proofs.PullLemmas.{seen-more}
use Rattle.replica.proofs.pull.is_seen_raised.Goals as goal

pub loop-place-preserved : goal.loop-place-preserved
loop-place-preserved c =
    seen-more c.loop-place.seen c.glance_over-seen.result c.args.rows.now.rows c.args.row.now c.args.places.now c.loop-place.place-index c.loop-place-test.true
    c.loop-place.invariant (rw c.row.ensures.value at c.glance_over-seen.ensures.rises)
