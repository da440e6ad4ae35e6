use Rattle.std.proofs.Common.{[], ◌∷◌, ◌++◌, ap, ◌∙◌}
use Rattle.std.specs.Prelude.{None}
use Rattle.std.proofs.lemmas.List.{replicate_more}
use Rattle.board.proofs.book.start_kept.Goals as goal

pub loop-preserved : goal.loop-preserved
loop-preserved c = c.in_ok-push.ensures.items ∙ ap (λ l. l ++ None ∷ []) c.loop.invariant ∙ replicate_more c.loop.counter None
