use Rattle.std.proofs.Common.{ap, ◌∙◌, refl}
use Rattle.ball_model.specs.Batches.{BatchValue}
use Rattle.batches.specs.Reading.{head_bytes}
use Rattle.batches.proofs.HeadLemmas.{same_head}
use Rattle.batches.proofs.WholeLemmas.{head_of, header_bytes-head}
use Rattle.batches.proofs.batch.Batch.header.Goals as goal

pub returns : goal.returns
returns c =
    let b = c.args.self.now in
    let v = c.self.view_is in
    let head = same_head _ (head_of b) refl refl (c.log2m.ensures.value ∙ ap (λ (x : BatchValue). x.plan.log2m) v) (ap (λ (x : BatchValue). x.name.superstep) v) (ap (λ (x : BatchValue). x.name.source) v) (ap (λ (x : BatchValue). x.name.target) v)
    (c.job.ensures ∙ ap (λ (x : BatchValue). x.plan.job) v) (ap (λ (x : BatchValue). x.changed) v) c.count.ensures.value in
    c.spell_header.ensures ∙ ap head_bytes head ∙ header_bytes-head b
