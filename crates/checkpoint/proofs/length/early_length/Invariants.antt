use Rattle.std.proofs.Common.{◌≡◌, ◌*◌, ◌≤◌, length, take}
use Rattle.std.specs.List.{flat_map}
use Rattle.ball_model.specs.Checkpoint.{early_bytes, kept_batches}
use Rattle.checkpoint.specs.Parts.{longest_batch}
use Rattle.checkpoint.proofs.length.early_length.Given as goal

abbrev pub invariant-loop-i : goal.invariant-loop-i
invariant-loop-i l = record {
  so_far : l.length ≡ length (flat_map early_bytes (take l.i (kept_batches l.replica.early)));
  few : l.length ≤ l.i * longest_batch;
}
