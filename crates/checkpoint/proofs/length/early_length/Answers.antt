use Rattle.std.proofs.Common.{◌≤◌, List, length, ap, ◌∙◌, arith}
use Rattle.std.specs.List.{flat_map}
use Rattle.std.proofs.lemmas.List.{take_all}
use Rattle.ball_model.specs.Batches.{BatchValue}
use Rattle.ball_model.specs.Checkpoint.{early_bytes, kept_batches}
use Rattle.checkpoint.proofs.TextLemmas.{early_few}
use Rattle.checkpoint.proofs.LengthLemmas.{early_next}
use Rattle.checkpoint.proofs.length.early_length.Goals as goal

pub overflow_add-length : goal.overflow_add-length
overflow_add-length c =
    let v = c.args.replica.now in
    let s = c.limits.ensures.state in
    omega (arith, c.loop-i.invariant.few, c.nth_length-length.ensures.few, c.early_count-i-end.ensures.value, early_few v.part.plan.parts v.early s.early.table, s.part.plan.parts_to)

pub loop-i-preserved : goal.loop-i-preserved
loop-i-preserved c = record {
  so_far = early_next c.args.replica.now c.loop-i.i c.loop-i.length c.nth_length-length.result c.loop-i.invariant.so_far c.nth_length-length.ensures.value;
  few = omega (arith, c.loop-i.invariant.few, c.nth_length-length.ensures.few);
}

pub returns-clause-value : goal.returns-clause-value
returns-clause-value c =
    let v = c.args.replica.now in
    let all : length (kept_batches v.early) ≤ c.loop-i.i = omega (arith, c.early_count-i-end.ensures.value) in
    c.loop-i.invariant.so_far ∙ ap (λ (l : List BatchValue). length (flat_map early_bytes l)) (take_all c.loop-i.i (kept_batches v.early) all)

pub returns-clause-few : goal.returns-clause-few
returns-clause-few c =
    let v = c.args.replica.now in
    let s = c.limits.ensures.state in
    omega (arith, c.loop-i.invariant.few, c.early_count-i-end.ensures.value, early_few v.part.plan.parts v.early s.early.table, s.part.plan.parts_to)
