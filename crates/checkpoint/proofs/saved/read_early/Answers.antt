use Rattle.std.proofs.Common.{List, ℕ, length, ap, arith}
use Rattle.std.specs.List.{flat_map}
use Rattle.std.proofs.lemmas.Result.{err_from_is_err_and}
use Rattle.ball_model.specs.Checkpoint.{early_bytes}
use Rattle.checkpoint.proofs.RightLemmas.{count_here, never}
use Rattle.checkpoint.proofs.saved.read_early.Goals as goal

pub returns-in_err-number-clause-right : goal.returns-in_err-number-clause-right
returns-in_err-number-clause-right c = λ batches of_plan few is. absurd (never (c.in_err-number.ensures.only (omega (arith, ap (λ (l : List ℕ). length l) is))))

pub returns-in_err-rest-clause-right : goal.returns-in_err-rest-clause-right
returns-in_err-rest-clause-right c = λ batches of_plan few is.
    let here = count_here (length batches) c.u16_at.result c.args.bytes.now c.in_ok-number.number.now c.in_ok-number.after.now (flat_map early_bytes batches) few c.in_ok-number.ensures.split c.in_ok-number.ensures.length c.u16_at.ensures is in
    let p = err_from_is_err_and c.from_residual-in_err-rest.result c.from_residual-in_err-rest.ensures.1 in
    rw (p.1, p.2) (c.in_err-rest.ensures.right batches of_plan here.0 here.1)

pub returns-clause-right : goal.returns-clause-right
returns-clause-right c = λ batches of_plan few is.
    let here = count_here (length batches) c.u16_at.result c.args.bytes.now c.in_ok-number.number.now c.in_ok-number.after.now (flat_map early_bytes batches) few c.in_ok-number.ensures.split c.in_ok-number.ensures.length c.u16_at.ensures is in
    (c.in_ok-rest.ensures.right batches of_plan here.0 here.1).0
