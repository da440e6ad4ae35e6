use Rattle.std.proofs.Common.{◌≡◌, ◌≤◌, ◌+◌, ◌-◌, ◌/◌, ◌^◌, length, ap, ◌∙◌, arith, rules}
use Rattle.std.specs.List.{sum_by, range_with_len}
use Rattle.ball_model.specs.Figures.{gain_of}
use Rattle.figures.proofs.TotalLemmas.{step_of, gain_more, room_more}
use Rattle.figures.proofs.totals.gain.Goals as goal
use Rattle.figures.proofs.totals.gain.Goals.{After-halved-sum}

-- the sum with this rise leaves room for those that follow
room : (c : After-halved-sum) → c.loop-i.sum + c.halved-sum.result + (2 ^ 128 - 1) / 2 ^ (c.loop-i.i + 1 - 1) ≤ 2 ^ 128 - 1
room c =
    let small : c.saturating_sub.result ≤ 2 ^ 128 - 1 = omega arith in
    room_more (2 ^ 128 - 1) c.saturating_sub.result c.loop-i.i c.loop-i.sum c.halved-sum.result c.loop-i.auto.i small c.halved-sum.ensures c.loop-i.invariant.room

pub overflow_add-sum : goal.overflow_add-sum
overflow_add-sum c = let fits = room c in omega arith

pub loop-i-preserved : goal.loop-i-preserved
loop-i-preserved c =
    let made : c.halved-sum.result ≡ step_of c.args.totals.now c.loop-i.i = search rules in
    record {
      sum = gain_more c.args.totals.now c.loop-i.i c.loop-i.sum c.halved-sum.result c.loop-i.auto.i c.loop-i.invariant.sum made;
      place = omega arith;
      room = room c;
    }

pub returns : goal.returns
unfolding gain_of
returns c =
    let n = length c.args.totals.now in
    let end : c.loop-i.i - 1 ≡ n - 1 = omega arith in
    c.loop-i.invariant.sum ∙ ap (λ k. sum_by (step_of c.args.totals.now) (range_with_len 1 k)) end
