use Rattle.std.proofs.Common.{◌≡◌, take}
use Rattle.replica.proofs.Names.{vec_len, vec_capacity}
use Rattle.replica.proofs.tables.refill.Given as goal

abbrev pub invariant-loop-sum : goal.invariant-loop-sum
invariant-loop-sum l = record {
  items : l.sums.items ≡ take l.sum-index l.others;
  len : vec_len l.sums ≡ l.sum-index;
  room : vec_capacity l.sums ≡ vec_capacity l.fn.sums;
}
