use Rattle.std.proofs.Common.{◌∙◌, map, ap, sym}
use Rattle.std.proofs.lemmas.Result.{IfOk-weaker}
use Rattle.graph.proofs.OwnLemmas.{vertices-sole}
use Rattle.graph.proofs.part.part_feeds.Goals as goal

pub returns-then-parts-eq1 : goal.returns-then-parts-eq1
returns-then-parts-eq1 c =
    let sole = vertices-sole c.args.plan.now.vertices c.args.plan.now.parts c.args.p (sym c.parts.ensures.value ∙ c.if-parts-eq1.true) c.requires.part in
    IfOk-weaker c.shared_masks.result _ _ (λ masks is f are. is ∙ are ∙ ap (map f) (sym sole)) c.shared_masks.ensures
