use Rattle.std.proofs.Common.{ap, arith}
use Rattle.atomic_table.specs.Seated.{TableId}
use Rattle.workers.proofs.MarkLemmas.{comes}
use Rattle.workers.proofs.marks.Marked.look.Goals as goal

pub load_new_seat-requires : goal.load_new_seat-requires
load_new_seat-requires c =
    let words = ap (λ (t : TableId). t.words) c.self.view_is in
    (omega (arith, c.requires, words), comes _ _ _)
