use Rattle.std.proofs.Common.{◌∙◌, ap, sym, arith}
use Rattle.atomic_table.specs.Seated.{TableId}
use Rattle.workers.proofs.MarkLemmas.{marks}
use Rattle.workers.proofs.marks.Marked.mark.Goals as goal

pub store-requires : goal.store-requires
store-requires c =
    let words = ap (λ (t : TableId). t.words) c.self.view_is in (
      c.requires.look ∙ sym c.self.view_is,
      omega (arith, c.requires.word, words),
      marks _ _ _ _ _ (omega (arith, c.requires.word, words, c.self.invariant)),
    )
