use Rattle.std.proofs.Common.{◌∙◌, refl}
use Rattle.std.proofs.lemmas.Result.{IfOk-weaker}
use Rattle.ball_model.specs.Job.{part_of}
use Rattle.workers.proofs.planned.shared_part.Goals as goal

pub returns : goal.returns
unfolding part_of
returns c = λ j p h.
    let made = rw c.in_ok-part.was at h in
    IfOk-weaker c.shared.result _ _ (λ ready is. is ∙ rw (c.with_job.ensures, made) refl) c.shared.ensures
