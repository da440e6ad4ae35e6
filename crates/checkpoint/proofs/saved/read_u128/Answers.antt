use Rattle.std.proofs.Common.{arith}
use Rattle.checkpoint.proofs.SavedLemmas.{spelt_16}
use Rattle.checkpoint.proofs.RightLemmas.{right_16}
use Rattle.checkpoint.proofs.saved.read_u128.Goals as goal

pub returns-clause-spelled : goal.returns-clause-spelled
returns-clause-spelled c =
    spelt_16 c.args.bytes.now c.in_ok-number.number.now c.in_ok-number.rest.now c.u128_at.result c.in_ok-number.ensures.split c.in_ok-number.ensures.length (λ i. (c.type_inv.bytes i).fits) c.u128_at.ensures

pub returns-clause-right : goal.returns-clause-right
returns-clause-right c = λ n rest few is.
    right_16 c.u128_at.result n c.args.bytes.now c.in_ok-number.rest.now rest (omega arith) few
    (spelt_16 c.args.bytes.now c.in_ok-number.number.now c.in_ok-number.rest.now c.u128_at.result c.in_ok-number.ensures.split c.in_ok-number.ensures.length (λ i. (c.type_inv.bytes i).fits) c.u128_at.ensures) is
