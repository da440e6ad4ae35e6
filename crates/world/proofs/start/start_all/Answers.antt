use Rattle.std.proofs.Common.{◌+◌, ◌<◌, List, ◌∷◌, [], ◌∙◌, ap, arith, map, sym, subst}
use Rattle.std.proofs.lemmas.List.{map-append}
use Rattle.ball_model.specs.Job.{job_of}
use Rattle.world.specs.Shows.{SeenNode, AreFirstNodes}
use Rattle.world.proofs.PlaceLemmas.{Row}
use Rattle.world.proofs.StartLemmas.{row_more}
use Rattle.world.proofs.start.start_all.Goals as goal

pub loop-p-preserved : goal.loop-p-preserved
loop-p-preserved c =
    let j = job_of c.args.graph.now.graph c.args.plan.now in
    let below : c.loop-p.p < j.plan.parts = omega (arith, c.loop-p-test.true, c.loop-p.auto.p-end, c.parts-p-end.ensures.value) in
    subst (λ (rows : List (List SeenNode)). AreFirstNodes j (c.loop-p.p + 1) c.args.replicas rows)
    (sym (ap (map (λ (row : Row). row.items)) c.in_ok-push.ensures.items ∙ map-append (λ (row : Row). row.items) c.loop-p.rows.items (c.in_ok-nodes.nodes ∷ [])))
    (row_more j c.loop-p.p c.args.replicas (map (λ (row : Row). row.items) c.loop-p.rows.items) c.in_ok-nodes.nodes.items c.loop-p.invariant (c.in_ok-nodes.ensures j c.loop-p.p c.requires below c.in_ok-part.ensures))
