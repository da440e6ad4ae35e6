-- What the bytes of a checkpoint say of vertices, one after the other, and of the batches that are held.
use Rattle.std.specs.Prelude.{◌≡◌, ℕ, ◌^◌, ◌≤◌, ◌<◌, Bool, false, List, [], ◌∷◌, ◌++◌, map, length, replicate, slice_index_or, slice_set, Result, Ok, Err, vec_capacity}
use Rattle.std.specs.Arc.{arc_value}
use Rattle.std.specs.List.{flat_map, range_with_len}
use Rattle.ball_model.specs.Batches.{BatchValue, IsBatch}
use Rattle.ball_model.specs.Checkpoint.{entry_bytes, kept_batches, no_figures}
use Rattle.ball_model.specs.Figures.{TallyValue}
use Rattle.ball_model.specs.Job.{PartValue}
use Rattle.ball_model.specs.PlanValue.{PlanValue, most_parts}
use Rattle.ball_model.specs.State.{State}
use Rattle.ball_model.specs.Table.{Table}
use Rattle.figures.specs.Values.{value_of}
use Rattle.figures.specs.declared.tally.Tally.{Tally}
use Rattle.replica.specs.Saved.{IsFigures}
use Rattle.replica.specs.declared.saved.Saved.{Saved}
use Rattle.checkpoint.specs.declared.error.KeepError.{KeepError}
use Rattle.checkpoint.specs.declared.error.KeepError.TheVariants as errors
use Rattle.checkpoint.specs.declared.saved.Held.{Held}
use Rattle.checkpoint.specs.declared.saved.Vertices.{Vertices}

-- the spelling of vertex i
abbrev pub entry_at : Vertices → ℕ → List ℕ
entry_at v i =
    entry_bytes (slice_index_or v.marks.items i false)
    (slice_index_or (map value_of v.tallies.items) i no_figures) (slice_index_or v.rows.rows i [])

-- there is no vertex yet, and all registers are zeros
pub record AreNone (v : Vertices) : Type 0 where
  pub marks : v.marks.items ≡ []
  pub tallies : v.tallies.items ≡ []
  pub rows : v.rows.rows ≡ replicate (length v.rows.rows) (replicate v.rows.width 0)

-- there is room for the marks and the figures of all vertices
pub record HasRoomForAll (v : Vertices) : Type 0 where
  pub marks : length v.rows.rows ≤ vec_capacity v.marks
  pub tallies : length v.rows.rows ≤ vec_capacity v.tallies

-- the bytes are the spelling of the first n vertices, and after it the rest
pub record AreVerticesTold (n : ℕ) (v : Vertices) (bytes rest : List ℕ) : Type 0 where
  pub marks : length v.marks.items ≡ n
  pub tallies : length v.tallies.items ≡ n
  pub text : bytes ≡ flat_map (entry_at v) (range_with_len 0 n) ++ rest

-- the bytes are the spelling of one vertex, which is added as vertex i, and after it the rest
pub record IsAdded (old new : Vertices) (i : ℕ) (bytes rest : List ℕ) : Type 0 where
  pub mark : Bool
  pub tally : Tally
  pub row : List ℕ
  pub marks : new.marks.items ≡ old.marks.items ++ mark ∷ []
  pub tallies : new.tallies.items ≡ old.tallies.items ++ tally ∷ []
  pub rows : new.rows.rows ≡ slice_set old.rows.rows i row
  pub text : bytes ≡ entry_bytes mark (value_of tally) row ++ rest

-- ---- what is read of bytes that are a spelling
-- it is Ok and has this, unless memory was refused
abbrev pub IfOkButMemory : {A : Type 0} → Result A KeepError → (A → Type 0) → Type 0
IfOkButMemory (Ok x) has = has x
IfOkButMemory (Err e) has = e ≡ errors.Memory

-- figures that a run can have, of an estimate that has eight bytes
pub record IsSmall (t : TallyValue) : Type 0 where
  pub last : t.last < 2 ^ 64
  pub figures : IsFigures t

-- vertex i is added, with its mark, its figures and its registers
pub record AreNext (old new : Vertices) (i : ℕ) (mark : Bool) (tally : TallyValue)
    (row : List ℕ) : Type 0 where
  pub marks : new.marks.items ≡ old.marks.items ++ mark ∷ []
  pub tallies : map value_of new.tallies.items ≡ map value_of old.tallies.items ++ tally ∷ []
  pub rows : new.rows.rows ≡ slice_set old.rows.rows i row

-- the vertices are those of the replica
pub record AreOf (v : State) (vertices : Vertices) : Type 0 where
  pub marks : vertices.marks.items ≡ v.marks
  pub tallies : map value_of vertices.tallies.items ≡ v.tallies
  pub rows : vertices.rows.rows ≡ v.rows

-- a batch of the plan
pub record IsOfPlan (plan : PlanValue) (b : BatchValue) : Type 0 where
  pub batch : IsBatch b
  pub plan_is : b.plan ≡ plan

-- what is held is what the replica holds
pub record IsHeldOf (v : State) (h : Held) : Type 0 where
  pub heard : h.heard ≡ v.heard
  pub change : h.heard_change ≡ v.heard_change
  pub accumulated : h.accumulated.rows ≡ v.accumulated
  pub early : map arc_value h.early.items ≡ kept_batches v.early

-- what was read is of superstep t, and its registers are as many as the part's
pub record HasShape (part : PartValue) (t : ℕ) (s : Saved) : Type 0 where
  pub superstep : s.superstep ≡ t
  pub rows : s.rows.width ≡ 2 ^ part.plan.log2m
  pub accumulated : s.accumulated.width ≡ 2 ^ part.plan.log2m

-- nothing is heard, the accumulators are the rows, and nothing is kept
pub record IsUnnamed (rows : Table) (h : Held) : Type 0 where
  pub heard : h.heard ≡ replicate most_parts false
  pub change : h.heard_change ≡ false
  pub accumulated : h.accumulated ≡ rows
  pub early : h.early.items ≡ []
