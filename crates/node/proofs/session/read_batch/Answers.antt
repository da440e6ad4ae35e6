use Rattle.std.proofs.Common.{◌∙◌, ap, sym}
use Rattle.std.specs.Prelude.{Err, Ok, is_ok}
use Rattle.std.proofs.lemmas.Result.{IfErr-weaker, IfOk-weaker}
use Rattle.ball_model.specs.Batches.{true_batch}
use Rattle.world.proofs.ApplyLemmas.{read_wants}
use Rattle.node.proofs.SessionLemmas.{delivered_read, read_true}
use Rattle.std.specs.Arc.{arc_value}
use Rattle.node.proofs.SessionLemmas.{spelled_as, spelled_not, spelled_wants}
use Rattle.batches.specs.Reading.{batch_at}
use Rattle.node.proofs.session.read_batch.Goals as goal

pub returns-in-Err-clause-memory : goal.returns-in-Err-clause-memory
returns-in-Err-clause-memory c = λ j name job plan d.
    read_wants c.in-Err.error (true_batch j name) (delivered_read j name c.args.plan.now c.args.bytes.now (Err c.in-Err.error) job plan d c.in-Err.ensures.only)

pub returns-in-Ok-clause-memory : goal.returns-in-Ok-clause-memory
returns-in-Ok-clause-memory c = λ j name job plan d. c.shared.ensures.memory

pub returns-in-Ok-clause-given : goal.returns-in-Ok-clause-given
returns-in-Ok-clause-given c = λ j name job plan d.
    IfOk-weaker c.shared.result _ _
    (λ b is. is ∙ read_true c.in-Ok.batch (true_batch j name) (delivered_read j name c.args.plan.now c.args.bytes.now (Ok c.in-Ok.batch) job plan d c.in-Ok.ensures.only))
    c.shared.ensures.given

pub returns-in-Err-clause-named : goal.returns-in-Err-clause-named
returns-in-Err-clause-named c = spelled_not c.in-Err.error (batch_at c.args.plan.now c.args.bytes.now) c.in-Err.ensures.exact

pub returns-in-Ok-clause-spells : goal.returns-in-Ok-clause-spells
returns-in-Ok-clause-spells c =
    IfOk-weaker c.shared.result _ _ (λ b is. spelled_as c.in-Ok.batch (arc_value b) (batch_at c.args.plan.now c.args.bytes.now) c.in-Ok.ensures.exact is) c.shared.ensures.given

pub returns-in-Err-clause-last : goal.returns-in-Err-clause-last
returns-in-Err-clause-last c = spelled_wants c.in-Err.error (batch_at c.args.plan.now c.args.bytes.now) c.in-Err.ensures.exact

pub returns-in-Ok-clause-last : goal.returns-in-Ok-clause-last
returns-in-Ok-clause-last c =
    IfErr-weaker c.shared.result _ _ (λ e wants is. ap is_ok (sym c.in-Ok.ensures.exact)) c.shared.ensures.memory
