use Rattle.std.proofs.Common.{◌≡◌, ◌-◌, ◌^◌, ℕ, List, min, slice_index, ap, ◌∙◌}
use Rattle.std.specs.List.{sum_by}
use Rattle.std.proofs.lemmas.List.{take_all}
use Rattle.ball_model.specs.State.{State}
use Rattle.report.specs.Parts.{total_in}
use Rattle.report.proofs.TotalLemmas.{capped_more}
use Rattle.report.proofs.parts.total.Goals as goal

pub loop-replica-preserved : goal.loop-replica-preserved
loop-replica-preserved c =
    let i = c.args.i in
    let v = c.replica-item.result in
    let f : State → ℕ = λ v. slice_index v.sums i in
    let own : slice_index c.sums.result.now i ≡ f v = ap (λ (sums : List ℕ). slice_index sums i) c.sums.ensures.value in
    record {
      sum = capped_more f c.args.replicas.now c.loop-replica.replica-index v (2 ^ 128 - 1) c.loop-replica.sum c.saturating_add-sum.result (slice_index c.sums.result.now i)
          c.loop-replica-test.true c.replica-item.is own c.loop-replica.invariant.sum c.saturating_add-sum.ensures;
    }

pub returns : goal.returns
unfolding total_in
returns c =
    let f : State → ℕ = λ v. slice_index v.sums c.args.i in
    c.loop-replica.invariant.sum ∙ ap (λ (vs : List State). min (sum_by f vs) (2 ^ 128 - 1)) (take_all c.loop-replica.replica-index c.args.replicas.now c.loop-replica-test.false)
