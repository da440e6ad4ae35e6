use Rattle.std.proofs.Common.{List, ℕ, length, ap, sym, arith}
use Rattle.std.specs.Arc.{arc_value}
use Rattle.std.proofs.lemmas.List.{length-append}
use Rattle.std.proofs.lemmas.Result.{err_from_is_err_and}
use Rattle.ball_model.specs.Batches.{batch_bytes}
use Rattle.checkpoint.proofs.HeldLemmas.{batch_read, front_fits}
use Rattle.checkpoint.proofs.RightLemmas.{batch_here, never, row_here}
use Rattle.checkpoint.proofs.saved.read_batch.Goals as goal

pub returns-clause-spelled : goal.returns-clause-spelled
returns-clause-spelled c =
    let bytes = c.args.bytes.now in
    let number = c.in_ok-length.length.now in
    let after = c.in_ok-length.after.now in
    batch_read bytes number after c.in_ok-spelling.spelling.now c.in_ok-spelling.rest.now (arc_value c.in_ok-decode.field-0) c.u64_at.result
    c.in_ok-length.ensures.split c.in_ok-spelling.ensures.split c.in_ok-length.ensures.length (front_fits bytes number after c.in_ok-length.ensures.split (λ i. omega (arith, c.type_inv.bytes i)))
    c.u64_at.ensures c.in_ok-spelling.ensures.length c.in_ok-decode.ensures.spelled

pub returns-in_err-length-clause-right : goal.returns-in_err-length-clause-right
returns-in_err-length-clause-right c = λ b rest of_plan is. absurd (never (c.in_err-length.ensures.only (omega (arith, ap (λ (l : List ℕ). length l) is))))

pub returns-in_err-spelling-clause-right : goal.returns-in_err-spelling-clause-right
returns-in_err-spelling-clause-right c = λ b rest of_plan is.
    let a = batch_here b c.args.bytes.now c.in_ok-length.length.now c.in_ok-length.after.now rest c.u64_at.result of_plan.batch c.in_ok-length.ensures.split c.in_ok-length.ensures.length c.u64_at.ensures is in
    absurd (never (c.in_err-spelling.ensures.only (omega (arith, a.0, ap (λ (l : List ℕ). length l) a.1, length-append (batch_bytes b) rest))))

pub returns-in_err-decode-clause-right : goal.returns-in_err-decode-clause-right
returns-in_err-decode-clause-right c = λ b rest of_plan is.
    let a = batch_here b c.args.bytes.now c.in_ok-length.length.now c.in_ok-length.after.now rest c.u64_at.result of_plan.batch c.in_ok-length.ensures.split c.in_ok-length.ensures.length c.u64_at.ensures is in
    let d = row_here c.u64_at.result c.in_ok-length.after.now c.in_ok-spelling.spelling.now c.in_ok-spelling.rest.now (batch_bytes b) rest c.in_ok-spelling.ensures.length (sym a.0) c.in_ok-spelling.ensures.split a.1 in
    let p = err_from_is_err_and c.from_residual-in_err-decode.result c.from_residual-in_err-decode.ensures.1 in
    rw (p.1, p.2) (c.in_err-decode.ensures.right b of_plan d.0)

pub returns-clause-right : goal.returns-clause-right
returns-clause-right c = λ b rest of_plan is.
    let a = batch_here b c.args.bytes.now c.in_ok-length.length.now c.in_ok-length.after.now rest c.u64_at.result of_plan.batch c.in_ok-length.ensures.split c.in_ok-length.ensures.length c.u64_at.ensures is in
    let d = row_here c.u64_at.result c.in_ok-length.after.now c.in_ok-spelling.spelling.now c.in_ok-spelling.rest.now (batch_bytes b) rest c.in_ok-spelling.ensures.length (sym a.0) c.in_ok-spelling.ensures.split a.1 in
    (c.in_ok-decode.ensures.right b of_plan d.0, d.1)
