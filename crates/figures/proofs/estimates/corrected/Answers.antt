use Rattle.std.proofs.Math.Nat.{min-le_right, pow-le-pow_right}
use Rattle.std.proofs.Common.{◌^◌, ◌<◌, ◌≤◌, ◌∙◌, sym, ap, arith}
use Rattle.ball_model.specs.Figures.{draws_of, small_bound, estimate_of}
use Rattle.ball_model.proofs.EstimateLemmas.{corrected_large, corrected_small}
use Rattle.figures.proofs.SmallLemmas.{small_at, small_is}
use Rattle.figures.proofs.estimates.corrected.Goals as goal

pub bounds-small-empty : goal.bounds-small-empty
bounds-small-empty c =
    let m = 2 ^ c.args.log2m in
    let table = small_is m c.args.empty c.args.small.now c.requires.table c.requires.empty in
    omega (arith, table.0, c.requires.empty)

pub returns-then-raw-registers-clause-value : goal.returns-then-raw-registers-clause-value
returns-then-raw-registers-clause-value c = λ row width raw empty.
    let large : small_bound (2 ^ c.args.log2m) ≤ estimate_of c.args.log2m row = omega (arith, raw) in
    raw ∙ sym (corrected_large c.args.log2m row large)

pub returns-else-raw-registers-clause-value : goal.returns-else-raw-registers-clause-value
returns-else-raw-registers-clause-value c = λ row width raw empty.
    let m = 2 ^ c.args.log2m in
    let small : estimate_of c.args.log2m row < small_bound m = omega (arith, raw) in
    let table = small_is m c.args.empty c.args.small.now c.requires.table c.requires.empty in
    table.1 ∙ ap (small_at m) empty ∙ sym (corrected_small c.args.log2m row small)

pub returns-else-raw-registers-clause-small : goal.returns-else-raw-registers-clause-small
returns-else-raw-registers-clause-small c =
    let m = 2 ^ c.args.log2m in
    let table = small_is m c.args.empty c.args.small.now c.requires.table c.requires.empty in
    let few : m ≤ 2 ^ 10 = pow-le-pow_right {n = 2} (omega arith) {i = c.args.log2m} {j = 10} (omega arith) in
    rw table.1 (omega (arith, min-le_right (draws_of m c.args.empty) (small_bound m), few))
