use Rattle.std.proofs.Common.{◌*◌, arith, rules}
use Rattle.ball_model.specs.Figures.{inverse_sum}
use Rattle.figures.proofs.SumLemmas.{so_far_le, weight_few, four_more}
use Rattle.figures.proofs.estimates.sum.Goals as goal

pub loop-k-init : goal.loop-k-init
unfolding inverse_sum
loop-k-init c = search rules

pub overflow_add-sum : goal.overflow_add-sum
overflow_add-sum c = omega (arith, c.entry.ensures.few, c.entry-in-loop-k.ensures.few, c.entry-in-loop-k-2.ensures.few, c.entry-in-loop-k-3.ensures.few)

pub overflow_add-sum-in-loop-k : goal.overflow_add-sum-in-loop-k
overflow_add-sum-in-loop-k c =
    let row = c.args.row.now in
    omega (
      arith,
      so_far_le row (4 * c.loop-k.k),
      weight_few row c.requires.short,
      c.loop-k.invariant,
      c.entry.ensures.few,
      c.entry-in-loop-k.ensures.few,
      c.entry-in-loop-k-2.ensures.few,
      c.entry-in-loop-k-3.ensures.few,
    )

pub loop-k-preserved : goal.loop-k-preserved
loop-k-preserved c =
    let i = 4 * c.loop-k.k in
    let more = four_more c.loop-k.sum c.args.row.now c.loop-k.k i (omega arith) (omega arith) c.loop-k.invariant in
    omega (arith, more, c.entry.ensures.value, c.entry-in-loop-k.ensures.value, c.entry-in-loop-k-2.ensures.value, c.entry-in-loop-k-3.ensures.value)
