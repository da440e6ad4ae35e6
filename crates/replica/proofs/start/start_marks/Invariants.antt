use Rattle.std.proofs.Common.{◌≡◌, ◌≤◌, take, length}
use Rattle.replica.proofs.Names.{vec_len, vec_capacity}
use Rattle.replica.proofs.start.start_marks.Given as goal

abbrev pub invariant-loop-i : goal.invariant-loop-i
invariant-loop-i l = record {
  items : l.marks.items ≡ take l.i l.part.counted;
  len : vec_len l.marks ≡ l.i;
  room : length l.part.preds ≤ vec_capacity l.marks;
}
