-- What was read is the spelling of the replica that is made of it.
use Rattle.std.proofs.Common.{◌≡◌, ℕ, List, [], ◌∷◌, ◌++◌, map, length, take, drop, ap, ap₂, sym, ◌∙◌, append_assoc}
use Rattle.std.specs.Prelude.{false, slice_index_or}
use Rattle.std.specs.List.{flat_map, range_with_len}
use Rattle.std.specs.Arc.{arc_value}
use Rattle.std.specs.Int.{w16, w64, w128, to_be_bytes}
use Rattle.std.proofs.lemmas.List.{take-append-drop}
use Rattle.ball_model.specs.Checkpoint.{checkpoint_bytes, early_bytes, entry_bytes, first_checkpoint_bytes, front_bytes, held_bytes, kept_batches, mark_byte, no_figures, sealed, table_bytes, vertex_bytes}
use Rattle.ball_model.specs.Job.{PartValue}
use Rattle.ball_model.specs.State.{State}
use Rattle.figures.specs.Values.{value_of}
use Rattle.registers.specs.Flags.{number_of_flags}
use Rattle.replica.specs.Saved.{IsRebuilt}
use Rattle.replica.specs.Seen.{IsState}
use Rattle.replica.specs.declared.saved.Saved.{Saved}
use Rattle.checkpoint.specs.Spelling.{held_text, table_text}
use Rattle.checkpoint.proofs.TextLemmas.{mask_is}

table_same : (v : State) → length v.rows ≡ length v.part.preds → table_text v.marks v.tallies v.rows v.sums ≡ table_bytes v
unfolding table_text table_bytes vertex_bytes
table_same v count =
    ap (λ (n : ℕ). flat_map (λ i. entry_bytes (slice_index_or v.marks i false) (slice_index_or v.tallies i no_figures) (slice_index_or v.rows i [])) (range_with_len 0 n) ++ flat_map (to_be_bytes w128) v.sums) count

held_same : (v : State) → length v.heard ≡ 64 → held_text v.heard v.heard_change v.accumulated (kept_batches v.early) ≡ held_bytes v
unfolding held_text held_bytes
held_same v long =
    let mark : List ℕ = mark_byte v.heard_change ∷ [] in
    let rows : List ℕ = flat_map (λ row. row) v.accumulated in
    let count : List ℕ = to_be_bytes w16 (length (kept_batches v.early)) in
    let early : List ℕ = flat_map early_bytes (kept_batches v.early) in
    let head : List ℕ = to_be_bytes w64 (number_of_flags v.heard) ++ mark in
    sym (append_assoc head rows (count ++ early)) ∙ sym (append_assoc (head ++ rows) count early)
    ∙ ap (λ (n : ℕ). (((to_be_bytes w64 n ++ mark) ++ rows) ++ count) ++ early) (mask_is v.heard long)

-- the fields that were saved are those of the replica
saved_table : (part : PartValue) (s : Saved) (v : State) → IsRebuilt part s v → IsState v → table_text s.marks.items (map value_of s.tallies.items) s.rows.rows s.sums.items ≡ table_bytes v
saved_table part s v r is = rw (sym r.marks, sym r.tallies, sym r.rows, sym r.sums) (table_same v is.count)

rest_same : (part : PartValue) (s : Saved) (v : State) → IsRebuilt part s v → IsState v
    → table_text s.marks.items (map value_of s.tallies.items) s.rows.rows s.sums.items ++ held_text s.heard s.heard_change s.accumulated.rows (map arc_value s.early.items) ≡ table_bytes v ++ held_bytes v
rest_same part s v r is =
    let held : held_text s.heard s.heard_change s.accumulated.rows (map arc_value s.early.items) ≡ held_bytes v =
    rw (sym r.heard, sym r.heard_change, sym r.accumulated, sym r.early) (held_same v is.heard.count) in
    ap₂ (λ (a b : List ℕ). a ++ b) (saved_table part s v r is) held

-- the content of the text
pub content_is : (part : PartValue) (s : Saved) (v : State) (text : List ℕ) → IsRebuilt part s v → IsState v → take 54 text ≡ front_bytes 2 v
    → drop 54 text ≡ table_text s.marks.items (map value_of s.tallies.items) s.rows.rows s.sums.items ++ held_text s.heard s.heard_change s.accumulated.rows (map arc_value s.early.items)
    → text ≡ front_bytes 2 v ++ table_bytes v ++ held_bytes v
content_is part s v text r is front rest =
    sym (take-append-drop 54 text) ∙ ap₂ (λ (a b : List ℕ). a ++ b) front (rest ∙ rest_same part s v r is) ∙ sym (append_assoc (front_bytes 2 v) (table_bytes v) (held_bytes v))

pub sealed_is : (v : State) (bytes text : List ℕ) → bytes ≡ sealed text → text ≡ front_bytes 2 v ++ table_bytes v ++ held_bytes v → bytes ≡ checkpoint_bytes v
unfolding checkpoint_bytes
sealed_is v bytes text split is = split ∙ ap sealed is

-- the content of a text of version 1
pub first_content_is : (part : PartValue) (s : Saved) (v : State) (text : List ℕ) → IsRebuilt part s v → IsState v → take 54 text ≡ front_bytes 1 v
    → drop 54 text ≡ table_text s.marks.items (map value_of s.tallies.items) s.rows.rows s.sums.items → text ≡ front_bytes 1 v ++ table_bytes v
first_content_is part s v text r is front rest =
    sym (take-append-drop 54 text) ∙ ap₂ (λ (a b : List ℕ). a ++ b) front (rest ∙ saved_table part s v r is)

pub first_sealed_is : (v : State) (bytes text : List ℕ) → bytes ≡ sealed text → text ≡ front_bytes 1 v ++ table_bytes v → bytes ≡ first_checkpoint_bytes v
unfolding first_checkpoint_bytes
first_sealed_is v bytes text split is = split ∙ ap sealed is
