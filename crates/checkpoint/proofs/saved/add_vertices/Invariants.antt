use Rattle.std.proofs.Common.{◌≡◌, ◌++◌, ◌^◌, ℕ, List, length}
use Rattle.std.specs.List.{flat_map, range_with_len}
use Rattle.ball_model.specs.Checkpoint.{vertex_bytes}
use Rattle.ball_model.specs.State.{State}
use Rattle.replica.specs.Saved.{IsKeepable}
use Rattle.checkpoint.specs.Told.{AreVerticesTold, HasRoomForAll}
use Rattle.checkpoint.proofs.RightLemmas.{AreFirst}
use Rattle.checkpoint.proofs.SavedLemmas.{AreZeros}
use Rattle.checkpoint.proofs.saved.add_vertices.Given as goal

-- as many rows as before, of the same width; the bytes so far spell the vertices so far, and the other rows are zeros;
-- there is room
abbrev pub invariant-loop-i : goal.invariant-loop-i
invariant-loop-i l = record {
  count : length l.vertices.rows.rows ≡ length l.initial.vertices.rows.rows;
  width : l.vertices.rows.width ≡ l.initial.vertices.rows.width;
  told : AreVerticesTold l.i l.vertices l.bytes l.rest;
  zeros : AreZeros l.i l.vertices.rows;
  room : HasRoomForAll l.vertices;
  right : (v : State) (rest : List ℕ) → IsKeepable v → length v.part.preds ≡ length l.initial.vertices.rows.rows → 2 ^ v.part.plan.log2m ≡ l.initial.vertices.rows.width
      → l.bytes ≡ flat_map (vertex_bytes v) (range_with_len 0 (length v.part.preds)) ++ rest → AreFirst v l.i l.vertices l.rest rest;
}
