use Rattle.std.proofs.Common.{◌*◌, ◌+◌, ◌-◌, ◌≤◌, ◌<◌, ◌^◌, ℕ, arith}
use Rattle.std.proofs.Math.Nat.{pow-le-pow_right}
use Rattle.std.proofs.lemmas.Nat.{mul-le}
use Rattle.node.proofs.limits.longest_checkpoint.Goals as goal

fits : (size width limit others longest : ℕ) → size ≤ 2 ^ 32 → width ≤ 1024 → limit ≤ 4096 → others ≤ 63 → longest ≤ 2 ^ 43 →
    86 + size * (33 + width) + 16 * (limit + 1) + 11 + size * width + 3 * others * (8 + longest) < 2 ^ 64
fits size width limit others longest few narrow low some long =
    let one = mul-le size (33 + width) (2 ^ 32) 1057 few (omega arith) in
    let two = mul-le size width (2 ^ 32) 1024 few narrow in
    let three = mul-le (3 * others) (8 + longest) 189 (8 + 2 ^ 43) (omega arith) (omega arith) in
    omega (arith, one, two, three)

pub overflow_add-early : goal.overflow_add-early
overflow_add-early c = omega (arith, c.longest_batch.ensures.few)

pub overflow_add-result-5 : goal.overflow_add-result-5
overflow_add-result-5 c =
    let p = c.args.part.now.plan in
    let narrow : 2 ^ c.plan-plan.result.now.log2m ≤ 2 ^ 10 = pow-le-pow_right {n = 2} (omega arith) {i = c.plan-plan.result.now.log2m} {j = 10} c.width-width.ensures.plan.log2m_to in
    let all = fits c.from-size.result c.width-width.result c.from.result (c.from-others.result - 1) c.longest_batch.result
    (omega (arith, c.from-size.ensures)) (omega (arith, c.width-width.ensures.value, narrow)) (omega (arith, c.from.ensures, c.limit.ensures.value, c.limit.ensures.plan.limit_to))
    (omega (arith, c.from-others.ensures, c.parts.ensures.value, c.parts.ensures.plan.parts_to)) c.longest_batch.ensures.few in
    omega (arith, all)
