use Rattle.std.proofs.Common.{arith}
use Rattle.batches.proofs.LoopLemmas.{read_next, read_done, read_none, read_whole}
use Rattle.batches.proofs.rows.read_each.Goals as goal

pub loop-init : goal.loop-init
loop-init c = record {
  so_far = read_none c.args.width c.args.count c.args.ids.now.items c.args.registers.now.items c.args.body.now c.requires.no_ids;
  room = rw (c.requires.no_ids, c.requires.no_registers) (omega arith);
  whole = read_whole c.args.width c.args.count c.args.body.now c.requires.whole;
}

pub loop-preserved : goal.loop-preserved
loop-preserved c =
    let i = c.loop.invariant in
    read_next c.args.width c.args.count c.loop.counter c.u32_at.result c.loop.ids.items c.loop.registers.items c.loop.rest.now c.split_at.result.0.now c.split_at.result.1.now c.split_at-in-loop.result.0.now _ _ _ _
    c.loop-test.true i.so_far i.room i.whole c.split_at.ensures.front c.split_at.ensures.back c.split_at-in-loop.ensures.front c.split_at-in-loop.ensures.back c.u32_at.ensures c.in_ok-push_row.ensures.ids c.in_ok-push_row.ensures.registers

pub returns-clause-rows : goal.returns-clause-rows
returns-clause-rows c = read_done c.args.width c.args.count c.loop.counter c.loop.ids.items c.loop.registers.items c.loop.rest.now _ c.loop-test.false c.loop.invariant.so_far
