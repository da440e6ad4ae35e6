use Rattle.std.proofs.Common.{◌+◌, ◌≤◌, ◌^◌, arith}
use Rattle.std.proofs.Math.Nat.{pow-le-pow_right}
use Rattle.std.proofs.lemmas.Nat.{mul-le}
use Rattle.node.proofs.limits.longest_batch.Goals as goal

pub returns-clause-few : goal.returns-clause-few
returns-clause-few c =
    let p = c.args.plan.now in
    let narrow : 2 ^ p.log2m ≤ 2 ^ 10 = pow-le-pow_right {n = 2} (omega arith) {i = p.log2m} {j = 10} (omega (arith, c.width-width.ensures.plan.log2m_to)) in
    let width : c.width-width.result ≤ 1024 = omega (arith, c.width-width.ensures.value, narrow) in
    let rows : c.from.result ≤ 2 ^ 32 = omega (arith, c.from.ensures) in
    omega (arith, mul-le c.from.result (4 + c.width-width.result) (2 ^ 32) 1028 rows (omega (arith, width)))
