use Rattle.batches.proofs.HeldLemmas.{copied_next, copied_done}
use Rattle.batches.proofs.registers.copied.Goals as goal

pub loop-place-preserved : goal.loop-place-preserved
loop-place-preserved c =
    copied_next c.args.width c.loop-place.place-index c.args.table.now c.args.places.now c.loop-place.own.items c.row_of.result.now _ _
    c.loop-place-test.true c.loop-place.invariant c.row_of.ensures c.in_ok-extend_from_slice.ensures.items

pub returns : goal.returns
returns c = copied_done c.args.width c.loop-place.place-index c.args.table.now c.args.places.now c.loop-place.own.items _ c.loop-place-test.false c.loop-place.invariant
