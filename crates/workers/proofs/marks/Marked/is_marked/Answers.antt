use Rattle.std.proofs.Common.{◌∙◌, ap, sym, arith}
use Rattle.atomic_table.specs.Seated.{TableId}
use Rattle.workers.proofs.MarkLemmas.{looks}
use Rattle.workers.proofs.marks.Marked.is_marked.Goals as goal

pub load-requires : goal.load-requires
load-requires c =
    let words = ap (λ (t : TableId). t.words) c.self.view_is in (
      c.requires.look ∙ sym c.self.view_is,
      omega (arith, c.requires.word, words),
      looks _ _ _ _ _ (omega (arith, c.requires.word, words, c.self.invariant)),
    )
