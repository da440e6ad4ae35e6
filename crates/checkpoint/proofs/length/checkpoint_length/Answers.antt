use Rattle.std.proofs.Common.{◌≡◌, ℕ, ◌^◌, List, length, ap, ◌∙◌, sym}
use Rattle.checkpoint.proofs.LengthLemmas.{whole_long}
use Rattle.checkpoint.proofs.length.checkpoint_length.Goals as goal

pub returns : goal.returns
returns c =
    let v = c.args.replica.now in
    let s = c.limits.ensures.state in
    let size : c.len-size.result ≡ length v.part.preds = c.len-size.ensures.value ∙ ap (λ (rows : List (List ℕ)). length rows) c.rows.ensures.value ∙ s.count in
    let width : c.width-width.result ≡ 2 ^ v.part.plan.log2m = c.width-width.ensures.value ∙ c.rows-2.ensures.width in
    rw (size, width, c.sums.ensures.value, c.early_length.ensures.value) (sym (whole_long v s))
