use Rattle.std.proofs.Common.{◌≡◌, ◌∙◌, ◌+◌, length, arith, sym, ap}
use Rattle.graph.proofs.CountLemmas.{marked_below, marked-few, marked-next}
use Rattle.graph.proofs.counting.count_marks.Goals as goal

pub overflow_add-count : goal.overflow_add-count
overflow_add-count c =
    let next = marked-next c.args.marks.now c.loop-v.v in
    let few = marked-few c.args.marks.now (c.loop-v.v + 1) in
    rw (c.bit-count.ensures, c.vertex_mark.ensures) (omega (arith, next, few, c.loop-v.invariant, c.loop-v-test.true, c.requires))

pub loop-v-preserved : goal.loop-v-preserved
loop-v-preserved c = rw (c.bit-count.ensures, c.vertex_mark.ensures, c.loop-v.invariant) (sym (marked-next c.args.marks.now c.loop-v.v))

pub returns : goal.returns
returns c =
    let at : c.loop-v.v ≡ length c.args.marks.now = omega (arith, c.loop-v-test.false, c.loop-v.auto.v-end) in
    c.loop-v.invariant ∙ ap (λ n. length (marked_below c.args.marks.now n)) at
