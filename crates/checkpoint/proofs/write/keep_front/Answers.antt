use Rattle.std.proofs.Common.{◌≡◌, [], ◌∷◌, ◌++◌, ◌∙◌, ap}
use Rattle.std.specs.Int.{w16, w32, to_be_bytes}
use Rattle.std.proofs.lemmas.Result.{on_ok_weaker, on_err_weaker}
use Rattle.ball_model.specs.Checkpoint.{front_bytes}
use Rattle.ball_model.specs.PlanValue.{PlanValue}
use Rattle.checkpoint.proofs.SpoolLemmas.{passes_as, stops_as}
use Rattle.checkpoint.proofs.TextLemmas.{front_is}
use Rattle.checkpoint.proofs.write.keep_front.Given as given
use Rattle.checkpoint.proofs.write.keep_front.Goals as goal
use Rattle.checkpoint.proofs.write.keep_front.Goals.{After-job}

-- the fields that are put, one after the other, are the front
front : (g : given.Over) (c : After-job g) → c.to_be_bytes.result
    ++ ((2 ∷ []) ++ ((c.log2m.result ∷ []) ++ (c.to_be_bytes-2.result ++ (c.to_be_bytes-3.result ++ (c.to_be_bytes-4.result ++ (c.to_be_bytes-5.result ++ (c.to_be_bytes-6.result ++ (c.job.result ++ []))))))))
    ≡ front_bytes 2 c.args.replica.now
front g c =
    let plan = c.plan-plan.ensures in
    front_is c.args.replica.now c.to_be_bytes.result c.log2m.result c.to_be_bytes-2.result c.to_be_bytes-3.result c.to_be_bytes-4.result c.to_be_bytes-5.result c.to_be_bytes-6.result c.job.result
    c.to_be_bytes.ensures
    (c.log2m.ensures.value ∙ ap (λ (p : PlanValue). p.log2m) plan)
    (c.to_be_bytes-2.ensures ∙ ap (to_be_bytes w16) (c.parts.ensures.value ∙ ap (λ (p : PlanValue). p.parts) plan))
    (c.to_be_bytes-3.ensures ∙ ap (to_be_bytes w16) c.partition.ensures)
    (c.to_be_bytes-4.ensures ∙ ap (to_be_bytes w32) (c.vertices.ensures.value ∙ ap (λ (p : PlanValue). p.vertices) plan))
    (c.to_be_bytes-5.ensures ∙ ap (to_be_bytes w32) c.size_of.ensures.size)
    (c.to_be_bytes-6.ensures ∙ ap (to_be_bytes w32) c.superstep.ensures.value)
    (c.job.ensures ∙ ap (λ (p : PlanValue). p.job) plan)

pub returns-clause-done : goal.returns-clause-done
returns-clause-done g c =
    let text = front g (goal.at.returns-clause-done g c).After-job in
    on_ok_weaker c.keep_all.result (λ p. passes_as g.W.Write.contents g.W.CountedWrite.failed_calls g.W.CountedWrite.sure_calls g.W.CountedWrite.room _ _ _ _ _ _ text p) c.keep_all.ensures.done

pub returns-clause-stops : goal.returns-clause-stops
returns-clause-stops g c =
    let text = front g (goal.at.returns-clause-stops g c).After-job in
    on_err_weaker c.keep_all.result (λ p. stops_as g.W.Write.contents g.W.CountedWrite.failed_calls g.W.CountedWrite.sure_calls g.W.CountedWrite.room _ _ _ _ _ text p) c.keep_all.ensures.stops
