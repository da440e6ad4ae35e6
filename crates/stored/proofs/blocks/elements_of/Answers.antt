use Rattle.std.proofs.Common.{length, ap, ◌∙◌, arith}
use Rattle.std.specs.List.{sum_by}
use Rattle.std.proofs.lemmas.List.{take_all}
use Rattle.stored.proofs.ListLemmas.{sum_more}
use Rattle.stored.proofs.blocks.elements_of.Goals as goal

pub loop-i-init : goal.loop-i-init
loop-i-init c = record { so_far = omega arith; few = omega arith }

pub overflow_add-sum : goal.overflow_add-sum
overflow_add-sum c = omega (arith, c.loop-i.invariant.few)

pub loop-i-preserved : goal.loop-i-preserved
loop-i-preserved c = record {
  so_far = omega (arith, c.loop-i.invariant.so_far, sum_more c.args.lists.now c.loop-i.i (omega arith), ap length c.list.ensures);
  few = omega (arith, c.loop-i.invariant.few);
}

pub returns : goal.returns
returns c = c.loop-i.invariant.so_far ∙ ap (sum_by length) (take_all c.loop-i.i c.args.lists.now (omega arith))
