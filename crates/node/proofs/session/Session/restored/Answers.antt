use Rattle.std.proofs.Common.{◌≡◌, ◌∙◌, ap, sym}
use Rattle.std.specs.Arc.{arc_value}
use Rattle.ball_model.specs.Job.{part_of}
use Rattle.ball_model.specs.State.{State}
use Rattle.job.proofs.SectionLemmas.{no_bytes}
use Rattle.node.proofs.SessionLemmas.{job_held, part_held, started_holds}
use Rattle.node.proofs.session.Session.restored.Goals as goal

pub returns-in_ok-started-clause-anew : goal.returns-in_ok-started-clause-anew
returns-in_ok-started-clause-anew c = λ j p h k none.
    let part : arc_value c.in_ok-part.part ≡ part_of j p = c.in_ok-part.ensures ∙ c.self.invariant ∙ ap (λ (s : State). s.part) c.self.view_is ∙ part_held j p h c.args.self.now k in
    started_holds j p h c.args.self.now c.in_ok-started.field-0 k (c.in_ok-started.ensures.start j p (job_held j p h c.args.self.now k) k.held.below part)

pub returns-else-is_empty-clause-back : goal.returns-else-is_empty-clause-back
returns-else-is_empty-clause-back c = λ j p h d k some given. c.read.ensures.back j p h d k given

pub returns-in_ok-started-clause-back : goal.returns-in_ok-started-clause-back
returns-in_ok-started-clause-back c = λ j p h d k some given. absurd (some (no_bytes c.args.bytes.now (sym c.is_empty.ensures ∙ c.if-is_empty.true)))

pub returns-in_ok-started-clause-whole : goal.returns-in_ok-started-clause-whole
returns-in_ok-started-clause-whole c = λ some. absurd (some (no_bytes c.args.bytes.now (sym c.is_empty.ensures ∙ c.if-is_empty.true)))

pub returns-in_ok-started-clause-spells : goal.returns-in_ok-started-clause-spells
returns-in_ok-started-clause-spells c = λ some. absurd (some (no_bytes c.args.bytes.now (sym c.is_empty.ensures ∙ c.if-is_empty.true)))

pub returns-in_ok-started-clause-front : goal.returns-in_ok-started-clause-front
returns-in_ok-started-clause-front c = λ some. absurd (some (no_bytes c.args.bytes.now (sym c.is_empty.ensures ∙ c.if-is_empty.true)))

pub returns-in_err-started-clause-front : goal.returns-in_err-started-clause-front
returns-in_err-started-clause-front c = λ some. absurd (some (no_bytes c.args.bytes.now (sym c.is_empty.ensures ∙ c.if-is_empty.true)))

pub returns-in_err-part-clause-front : goal.returns-in_err-part-clause-front
returns-in_err-part-clause-front c = λ some. absurd (some (no_bytes c.args.bytes.now (sym c.is_empty.ensures ∙ c.if-is_empty.true)))
