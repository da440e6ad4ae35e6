use Rattle.std.proofs.Common.{◌≡◌, ◌++◌, ◌∷◌, ◌+◌, ◌<◌, ◌∙◌, List, [], length, map, get_or, drop, ap, sym, arith, append-nil}
use Rattle.std.specs.Arc.{arc_value}
use Rattle.std.proofs.lemmas.List.{map-append}
use Rattle.std.specs.List.{flat_map}
use Rattle.std.proofs.lemmas.Result.{err_from_is_err_and}
use Rattle.ball_model.specs.Batches.{BatchValue}
use Rattle.ball_model.specs.Checkpoint.{early_bytes}
use Rattle.figures.proofs.PlaceLemmas.{an_item}
use Rattle.checkpoint.proofs.HeldLemmas.{batch_added}
use Rattle.checkpoint.proofs.RightLemmas.{stands_last, stands_next, taken_all, taken_next}
use Rattle.checkpoint.proofs.SavedLemmas.{one_more}
use Rattle.checkpoint.proofs.saved.add_batches.Goals as goal

pub loop-init : goal.loop-init
loop-init c = record {
  count = ap (λ l. length l) c.requires;
  spelled = ap (λ l. flat_map early_bytes (map arc_value l) ++ c.args.bytes.now) (sym c.requires);
  right = λ batches of_plan count is. (ap (λ l. map arc_value l) c.requires, is ∙ sym (append-nil (flat_map early_bytes batches)));
}

pub loop-preserved : goal.loop-preserved
loop-preserved c =
    let batch = c.in_ok-batch.batch in
    let more : map arc_value c.add.new.items.items ≡ map arc_value c.loop.early.items ++ arc_value batch ∷ [] = ap (λ l. map arc_value l) c.in_ok-add.ensures ∙ map-append arc_value c.loop.early.items (batch ∷ []) in
    record {
      count = one_more c.loop.early.items c.add.new.items.items batch c.loop.counter c.in_ok-add.ensures c.loop.invariant.count;
      spelled = batch_added c.args.bytes.now c.loop.rest.now c.in_ok-batch.after.now (map arc_value c.loop.early.items) (arc_value batch) c.loop.invariant.spelled c.in_ok-batch.ensures.spelled
          ∙ ap (λ (l : List BatchValue). flat_map early_bytes l ++ c.in_ok-batch.after.now) (sym more);
      right = λ batches of_plan count is.
          let i = c.loop.counter in
          let so_far = c.loop.invariant.right batches of_plan count is in
          let lt : i < length batches = omega arith in
          let b = get_or batches i (arc_value batch) in
          let here = c.in_ok-batch.ensures.right b (flat_map early_bytes (drop (i + 1) batches) ++ []) (of_plan i (arc_value batch) lt) (stands_next early_bytes batches (arc_value batch) i c.loop.rest.now [] lt so_far.1) in
          (more ∙ taken_next batches (map arc_value c.loop.early.items) (arc_value batch) (arc_value batch) i lt so_far.0 here.0, here.1);
    }

pub returns-in_err-batch-clause-right : goal.returns-in_err-batch-clause-right
returns-in_err-batch-clause-right c = λ batches of_plan count is.
    let i = c.loop.counter in
    let so_far = c.loop.invariant.right batches of_plan count is in
    let lt : i < length batches = omega arith in
    let b = an_item batches i lt in
    let p = err_from_is_err_and c.from_residual.result c.from_residual.ensures.1 in
    rw (p.1, p.2) (c.in_err-batch.ensures.right (get_or batches i b) (flat_map early_bytes (drop (i + 1) batches) ++ []) (of_plan i b lt) (stands_next early_bytes batches b i c.loop.rest.now [] lt so_far.1))

pub returns-clause-right : goal.returns-clause-right
returns-clause-right c = λ batches of_plan count is.
    let i = c.loop.counter in
    let so_far = c.loop.invariant.right batches of_plan count is in
    (taken_all batches (map arc_value c.loop.early.items) i (omega arith) so_far.0, stands_last early_bytes batches i c.loop.rest.now [] (omega arith) so_far.1)
