-- The bytes of a checkpoint, from the fields that are read of them.
use Rattle.std.specs.Prelude.{ℕ, Bool, false, List, [], ◌∷◌, ◌++◌, length, slice_index_or}
use Rattle.std.specs.List.{flat_map, range_with_len}
use Rattle.std.specs.Int.{w16, w64, w128, to_be_bytes}
use Rattle.ball_model.specs.Batches.{BatchValue}
use Rattle.ball_model.specs.Checkpoint.{early_bytes, entry_bytes, mark_byte, no_figures}
use Rattle.ball_model.specs.Figures.{TallyValue}
use Rattle.registers.specs.Flags.{number_of_flags}

-- the vertices, ascending, and the sums
unfoldable pub table_text : List Bool → List TallyValue → List (List ℕ) → List ℕ → List ℕ
table_text marks tallies rows sums =
    flat_map (λ i. entry_bytes (slice_index_or marks i false) (slice_index_or tallies i no_figures)
    (slice_index_or rows i [])) (range_with_len 0 (length rows))
    ++ flat_map (to_be_bytes w128) sums

-- what is heard, what is accumulated, and the batches that are kept
unfoldable pub held_text : List Bool → Bool → List (List ℕ) → List BatchValue → List ℕ
held_text heard change accumulated early =
    (to_be_bytes w64 (number_of_flags heard) ++ (mark_byte change ∷ []))
    ++ (flat_map (λ row. row) accumulated
    ++ (to_be_bytes w16 (length early) ++ flat_map early_bytes early))
