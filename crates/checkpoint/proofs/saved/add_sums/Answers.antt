use Rattle.std.proofs.Common.{◌++◌, ◌+◌, ◌<◌, ◌∙◌, ℕ, List, length, get_or, drop, ap, sym, arith}
use Rattle.std.specs.List.{flat_map}
use Rattle.std.specs.Int.{w128, to_be_bytes}
use Rattle.std.proofs.lemmas.Result.{err_from_is_err_and}
use Rattle.checkpoint.proofs.RightLemmas.{stands_last, stands_next, taken_all, taken_next}
use Rattle.checkpoint.proofs.SavedLemmas.{sums_more, one_sum_more}
use Rattle.checkpoint.proofs.saved.add_sums.Goals as goal

pub loop-init : goal.loop-init
loop-init c = record {
  spelt = ap (λ (l : List ℕ). flat_map (to_be_bytes w128) l ++ c.args.bytes.now) (sym c.requires.none);
  count = ap (λ (l : List ℕ). length l) c.requires.none;
  room = c.requires.room;
  right = λ sums rest few count is. (c.requires.none, is);
}

pub loop-preserved : goal.loop-preserved
loop-preserved c = record {
  spelt = sums_more c.loop.sums.items c.push_reserved.new.self.items c.in_ok-sum.sum c.args.bytes.now c.loop.rest.now c.in_ok-sum.after.now c.loop.invariant.spelt c.in_ok-sum.ensures.spelled c.push_reserved.ensures.items;
  count = one_sum_more c.loop.sums.items c.push_reserved.new.self.items c.in_ok-sum.sum c.loop.counter c.push_reserved.ensures.items c.loop.invariant.count;
  room = omega arith;
  right = λ sums rest few count is.
      let i = c.loop.counter in
      let so_far = c.loop.invariant.right sums rest few count is in
      let lt : i < length sums = omega arith in
      let more : List ℕ = flat_map (to_be_bytes w128) (drop (i + 1) sums) ++ rest in
      let here = c.in_ok-sum.ensures.right (get_or sums i 0) more (few i) (stands_next (to_be_bytes w128) sums 0 i c.loop.rest.now rest lt so_far.1) in
      (c.push_reserved.ensures.items ∙ taken_next sums c.loop.sums.items 0 c.in_ok-sum.sum i lt so_far.0 here.0, here.1);
}

pub returns-in_err-sum-clause-right : goal.returns-in_err-sum-clause-right
returns-in_err-sum-clause-right c = λ sums rest few count is.
    let i = c.loop.counter in
    let so_far = c.loop.invariant.right sums rest few count is in
    let lt : i < length sums = omega arith in
    let more : List ℕ = flat_map (to_be_bytes w128) (drop (i + 1) sums) ++ rest in
    let p = err_from_is_err_and c.from_residual.result c.from_residual.ensures.1 in
    rw (p.1, p.2) (c.in_err-sum.ensures.right (get_or sums i 0) more (few i) (stands_next (to_be_bytes w128) sums 0 i c.loop.rest.now rest lt so_far.1))

pub returns-clause-right : goal.returns-clause-right
returns-clause-right c = λ sums rest few count is.
    let i = c.loop.counter in
    let so_far = c.loop.invariant.right sums rest few count is in
    (taken_all sums c.loop.sums.items i (omega arith) so_far.0, stands_last (to_be_bytes w128) sums i c.loop.rest.now rest (omega arith) so_far.1)
