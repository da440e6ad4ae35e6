-- Checkpoints: a replica as bytes, from which a worker that was lost comes back (Pregel 2010). Numbers are written
-- most significant byte first.
use Rattle.std.specs.Prelude.{ℕ, ◌^◌, Bool, false, List, [], ◌∷◌, ◌++◌, length, replicate, Option, None, slice_index_or, if◌then◌else◌, codes}
use Rattle.std.specs.List.{flat_map, range_with_len, sum_by}
use Rattle.std.specs.Option.{option_to_list}
use Rattle.std.specs.Int.{w16, w32, w64, w128, to_be_bytes}
use Rattle.sha2.specs.Sha256.{sha256}
use Rattle.ball_model.specs.Figures.{TallyValue}
use Rattle.ball_model.specs.Batches.{BatchValue, batch_bytes}
use Rattle.ball_model.specs.PlanValue.{most_parts}
use Rattle.ball_model.specs.State.{State}

-- a mark: 1 if it is set, else 0
abbrev pub mark_byte : Bool → ℕ
mark_byte mark = if mark then 1 else 0

-- sources as a number: bit q is set if source q is among them
unfoldable pub mask_of : List Bool → ℕ
mask_of sources =
    sum_by (λ q. if slice_index_or sources q false then 2 ^ q else 0) (range_with_len 0 most_parts)

-- no figures
abbrev pub no_figures : TallyValue
no_figures = record { last = 0; harm = 0; dist = 0 }

-- the batches that are kept, ascending by superstep, then by source
unfoldable pub kept_batches : List (List (Option BatchValue)) → List BatchValue
kept_batches early = flat_map (λ slots. flat_map option_to_list slots) early

-- what each version begins with: the version, the part that the replica is of, and its superstep
unfoldable pub front_bytes : ℕ → State → List ℕ
front_bytes version v =
    codes "HBCK" ++ (version ∷ []) ++ (v.part.plan.log2m ∷ [])
    ++ to_be_bytes w16 v.part.plan.parts ++ to_be_bytes w16 v.part.number
    ++ to_be_bytes w32 v.part.plan.vertices ++ to_be_bytes w32 (length v.part.preds)
    ++ to_be_bytes w32 v.superstep ++ v.part.plan.job

-- a vertex: its mark, its figures and its registers
abbrev pub entry_bytes : Bool → TallyValue → List ℕ → List ℕ
entry_bytes mark tally row =
    (mark_byte mark ∷ []) ++ to_be_bytes w64 tally.last ++ to_be_bytes w64 tally.harm
    ++ to_be_bytes w128 tally.dist ++ row

-- the vertex at place i of the partition
unfoldable pub vertex_bytes : State → ℕ → List ℕ
vertex_bytes v i =
    entry_bytes (slice_index_or v.marks i false) (slice_index_or v.tallies i no_figures)
    (slice_index_or v.rows i [])

-- what both versions have: the vertices, ascending, and the sum of the estimates at each superstep so far
unfoldable pub table_bytes : State → List ℕ
table_bytes v =
    flat_map (vertex_bytes v) (range_with_len 0 (length v.part.preds))
    ++ flat_map (to_be_bytes w128) v.sums

-- a batch, and before it its length
abbrev pub early_bytes : BatchValue → List ℕ
early_bytes b = to_be_bytes w64 (length (batch_bytes b)) ++ batch_bytes b

-- what version 2 has of the batches that are held: of the superstep the sources, whether one of them has a changed
-- vertex, and the accumulators; and how many batches of later supersteps are kept, and each
unfoldable pub held_bytes : State → List ℕ
held_bytes v =
    to_be_bytes w64 (mask_of v.heard) ++ (mark_byte v.heard_change ∷ [])
    ++ flat_map (λ row. row) v.accumulated
    ++ to_be_bytes w16 (length (kept_batches v.early))
    ++ flat_map early_bytes (kept_batches v.early)

-- bytes, and after them their SHA-256
abbrev pub sealed : List ℕ → List ℕ
sealed bytes = bytes ++ sha256 bytes

-- the spelling of a replica, version 2
unfoldable pub checkpoint_bytes : State → List ℕ
checkpoint_bytes v = sealed (front_bytes 2 v ++ table_bytes v ++ held_bytes v)

-- its spelling in version 1, which has nothing of batches
unfoldable pub first_checkpoint_bytes : State → List ℕ
first_checkpoint_bytes v = sealed (front_bytes 1 v ++ table_bytes v)

-- the replica without the batches that it holds, and with nothing accumulated beside its rows
abbrev pub without_names : State → State
without_names v = record v {
  heard = replicate most_parts false;
  heard_change = false;
  accumulated = v.rows;
  early = replicate 3 (replicate v.part.plan.parts None);
}
