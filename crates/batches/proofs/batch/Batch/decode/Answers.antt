use Rattle.std.proofs.Common.{◌∙◌, ap, arith, sym, Ok}
use Rattle.std.proofs.lemmas.Result.{err_from_is_err_and}
use Rattle.ball_model.specs.Batches.{BatchValue, batch_bytes}
use Rattle.batches.proofs.WholeLemmas.{checked_takes, checked_spelled, read_is, only_from, refused, only_refused}
use Rattle.batches.proofs.batch.Batch.decode.Goals as goal

pub returns-in_err-header-clause-exact : goal.returns-in_err-header-clause-exact
returns-in_err-header-clause-exact c =
    let p = err_from_is_err_and c.from_residual.result c.from_residual.ensures.1 in
    rw (p.1, p.2) (refused c.args.plan.now c.args.bytes.now c.in_err-header.field-0.0 c.in_err-header.ensures)

pub returns-in_err-header-clause-only : goal.returns-in_err-header-clause-only
returns-in_err-header-clause-only c =
    let p = err_from_is_err_and c.from_residual.result c.from_residual.ensures.1 in
    rw (p.1, p.2) (only_refused c.args.plan.now c.args.bytes.now c.in_err-header.field-0.0 c.in_err-header.ensures)

pub returns-clause-spelled : goal.returns-clause-spelled
returns-clause-spelled c =
    let checked = checked_takes c.args.plan.now c.args.bytes.now c.in_ok-header.header (sym c.in_ok-header.ensures) in
    checked_spelled c.args.plan.now c.args.bytes.now c.in_ok-header.header (λ i. omega (arith, c.type_inv.bytes i)) checked ∙ ap batch_bytes (sym c.in_ok-read.ensures)

pub returns-clause-only : goal.returns-clause-only
returns-clause-only c =
    only_from c.args.plan.now c.args.bytes.now (Ok c.in_ok-read.field-0)
    (ap (λ (b : BatchValue). Ok b) c.in_ok-read.ensures ∙ sym (read_is c.args.plan.now c.args.bytes.now c.in_ok-header.header (sym c.in_ok-header.ensures)))
