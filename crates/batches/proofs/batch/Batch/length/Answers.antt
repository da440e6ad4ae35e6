use Rattle.std.proofs.Common.{◌≡◌, ◌^◌, ap, sym, ◌∙◌}
use Rattle.ball_model.specs.Batches.{BatchValue}
use Rattle.batches.proofs.WholeLemmas.{batch_length}
use Rattle.batches.proofs.batch.Batch.length.Goals as goal

pub returns-clause-bytes : goal.returns-clause-bytes
returns-clause-bytes c =
    let b = c.args.self.now in
    let width : c.width.result ≡ 2 ^ b.plan.log2m = c.width.ensures.value ∙ ap (λ (x : BatchValue). 2 ^ x.plan.log2m) c.self.view_is in
    rw (c.count.ensures.value, width) (sym (batch_length b c.count.ensures.batch))
