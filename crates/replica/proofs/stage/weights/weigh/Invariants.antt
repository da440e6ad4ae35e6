use Rattle.std.proofs.Common.{◌≡◌, ◌≤◌, take, map, length}
use Rattle.replica.proofs.Names.{vec_len, vec_capacity, weight_of}
use Rattle.replica.proofs.stage.weights.weigh.Given as goal

abbrev pub invariant-loop-i : goal.invariant-loop-i
invariant-loop-i l = record {
  items : l.weights.items ≡ map weight_of (take l.i l.rows.rows);
  len : vec_len l.weights ≡ l.i;
  room : length l.rows.rows ≤ vec_capacity l.weights;
}
