use Rattle.batches.proofs.HeldLemmas.{put_next}
use Rattle.batches.proofs.LoopLemmas.{put_done}
use Rattle.batches.specs.Held.{flat_of}
use Rattle.batches.proofs.registers.put_rows.Goals as goal

pub loop-i-preserved : goal.loop-i-preserved
loop-i-preserved c =
    put_next c.args.width c.loop-i.i c.args.ids.now (flat_of c.args.width c.args.registers.now) c.row_in.result.now c.loop-i.out.items _ _ _
    c.loop-i-test.true c.loop-i.invariant c.row_in.ensures c.in_ok-put_u32.ensures c.in_ok-extend_from_slice.ensures.items

pub returns : goal.returns
returns c = put_done c.args.width c.loop-i.i c.args.ids.now _ c.loop-i.out.items _ c.loop-i-test.false c.loop-i.invariant
