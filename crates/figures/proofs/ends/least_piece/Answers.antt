use Rattle.std.proofs.Common.{◌≤◌, ◌*◌, ◌+◌, ◌/◌, ◌%◌, ℕ, min, arith}
use Rattle.std.proofs.Math.Nat.{mul-le-mul_left}
use Rattle.std.proofs.lemmas.Grind.{div_ceil_times}
use Rattle.figures.proofs.ends.least_piece.Goals as goal

-- that many pieces have all items
pub returns-clause-few : goal.returns-clause-few
returns-clause-few c = λ some.
    let count : ℕ = c.args.count in
    let threads : ℕ = c.args.threads in
    let piece : ℕ = count / threads + min 1 (count % threads) in
    let enough : count ≤ piece * threads = (div_ceil_times count threads some).0 in
    let more : threads * piece ≤ threads * c.max.result = mul-le-mul_left threads (omega arith) in
    omega (arith, enough, more)
