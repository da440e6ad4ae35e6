-- Parts of a checkpoint's bytes.
use Rattle.std.specs.Prelude.{ℕ, ◌+◌, ◌*◌, ◌^◌, List, [], ◌∷◌, ◌++◌, length, slice_get}
use Rattle.std.specs.List.{flat_map}
use Rattle.std.specs.Option.{option_to_list}
use Rattle.std.specs.Int.{w16, w64, to_be_bytes}
use Rattle.ball_model.specs.Checkpoint.{mask_of, mark_byte, early_bytes, kept_batches}
use Rattle.ball_model.specs.PlanValue.{most_vertices}
use Rattle.ball_model.specs.State.{State}
use Rattle.batches.specs.declared.header.TheConstants.{HEADER_LEN as batch_head}
use Rattle.checkpoint.specs.declared.sizes.TheConstants.{LENGTH_LEN}

-- which sources are heard, and whether one of them has changed vertices
unfoldable pub heard_bytes : State → List ℕ
heard_bytes v = to_be_bytes w64 (mask_of v.heard) ++ (mark_byte v.heard_change ∷ [])

-- how many batches are kept
unfoldable pub count_bytes : State → List ℕ
count_bytes v = to_be_bytes w16 (length (kept_batches v.early))

-- the i-th of them, if there is one
unfoldable pub nth_bytes : State → ℕ → List ℕ
nth_bytes v i = flat_map early_bytes (option_to_list (slice_get (kept_batches v.early) i))

-- the most bytes that a batch of any plan has, with its length before it
abbrev pub longest_batch : ℕ
longest_batch = LENGTH_LEN + (batch_head + most_vertices * (4 + 2 ^ 10))
