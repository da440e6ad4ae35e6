use Rattle.std.proofs.Common.{◌≤◌, ◌^◌, arith, refl}
use Rattle.std.proofs.Math.Nat.{pow-le-pow_right}
use Rattle.ball_model.specs.Hash.{index_of}
use Rattle.ball_model.proofs.HashLemmas.{rank_of-code, index_of-lt}
use Rattle.ball_model.proofs.place.Goals as goal

pub overflow_cast-index-2 : goal.overflow_cast-index-2
overflow_cast-index-2 c =
    let few : 2 ^ c.args.log2m ≤ 2 ^ 10 = pow-le-pow_right {n = 2} (omega arith) {i = c.args.log2m} {j = 10} (omega arith) in
    rw c.from.ensures (omega (arith, index_of-lt c.args.log2m c.args.hash (omega arith) (omega arith)))

pub returns-clause-index : goal.returns-clause-index
unfolding index_of
returns-clause-index c = rw c.from.ensures refl

pub returns-clause-rank : goal.returns-clause-rank
returns-clause-rank c = rw c.from-2.ensures (rank_of-code c.args.log2m c.args.hash)

pub returns-clause-in_range : goal.returns-clause-in_range
returns-clause-in_range c = rw c.from.ensures (index_of-lt c.args.log2m c.args.hash (omega arith) (omega arith))
