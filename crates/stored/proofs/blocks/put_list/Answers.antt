use Rattle.std.proofs.Common.{◌++◌, ◌<◌, length, get_or, refl, arith}
use Rattle.gapcode.specs.Lists.{list_bits}
use Rattle.gapcode.proofs.IndexLemmas.{put_first, put_next, put_whole, ascends_at}
use Rattle.stored.proofs.blocks.put_list.Goals as goal

pub loop-x-init : goal.loop-x-init
loop-x-init c = record {
  so_far = put_first c.args.writer.now c.put_gamma.new.writer c.args.list.now (length c.args.list.now) refl c.in_ok-put_gamma.ensures.ok;
  ascend = c.requires;
}

pub overflow_sub-next : goal.overflow_sub-next
overflow_sub-next c = omega (arith, (ascends_at c.args.list.now c.loop-x.x-index c.loop-x.least (omega (arith, c.loop-x-test.true)) c.loop-x.invariant.ascend).0)

pub loop-x-preserved : goal.loop-x-preserved
loop-x-preserved c =
    let list = c.args.list.now in
    let i = c.loop-x.x-index in
    let lt : i < length list = omega (arith, c.loop-x-test.true) in
    record {
      so_far = put_next c.loop-x.writer c.put_gamma-in-loop-x.new.writer (c.args.writer.now ++ list_bits list) list i c.loop-x.least (get_or list i 0) lt refl c.loop-x.invariant.so_far c.in_ok-put_gamma-2.ensures.ok;
      ascend = (ascends_at list i c.loop-x.least lt c.loop-x.invariant.ascend).1;
    }

pub returns : goal.returns
returns c = put_whole c.loop-x.writer (c.args.writer.now ++ list_bits c.args.list.now) c.args.list.now c.loop-x.x-index c.loop-x.least (omega (arith, c.loop-x-test.false)) c.loop-x.invariant.so_far
