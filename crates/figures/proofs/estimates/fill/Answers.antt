use Rattle.std.proofs.Common.{◌≡◌, ◌+◌, ◌-◌, ◌*◌, ◌/◌, ◌<◌, ℕ, subst, set, ap, arith}
use Rattle.figures.proofs.SmallLemmas.{AreFilled, filled_first, filled_next, filled_last, wait_small}
use Rattle.figures.proofs.estimates.fill.Goals as goal

pub loop-taken-init : goal.loop-taken-init
loop-taken-init c =
    let m = c.args.m in
    let at : m ≡ m - 0 = omega arith in
    record {
      filled = subst (λ z. AreFilled m z 0 c.args.small.now) at (filled_first m c.args.small.now c.requires.count (λ k le. c.requires.none k 0 (omega (arith, c.requires.count))));
      high = omega arith;
    }

pub loop-taken-preserved : goal.loop-taken-preserved
loop-taken-preserved c =
    let m = c.args.m in
    let taken = c.loop-taken.taken in
    let z : ℕ = m - (taken + 1) in
    let lt : taken < m = omega arith in
    let next : m - taken ≡ z + 1 = omega arith in
    let at : z ≡ m - taken - 1 = omega arith in
    let before = subst (λ k. AreFilled m k c.loop-taken.draws c.loop-taken.small) next c.loop-taken.invariant.filled in
    let wait = wait_small m (m - taken) c.requires.few in
    record {
      filled = subst (λ k. AreFilled m z (c.loop-taken.draws + 1000000 * m / (m - taken)) (set c.loop-taken.small k c.min.result)) at
          (filled_next m z c.loop-taken.draws (c.loop-taken.draws + 1000000 * m / (m - taken)) c.min.result c.loop-taken.small (omega arith) before
          (ap (λ k. c.loop-taken.draws + 1000000 * m / k) next) c.min.ensures);
      high = omega (arith, wait, c.loop-taken.invariant.high);
    }

pub returns : goal.returns
returns c =
    let none : c.args.m - c.loop-taken.taken ≡ 0 = omega arith in
    filled_last c.args.m c.loop-taken.draws c.loop-taken.small
    (subst (λ k. AreFilled c.args.m k c.loop-taken.draws c.loop-taken.small) none c.loop-taken.invariant.filled)
