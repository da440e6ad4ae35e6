-- What a replica sends another partition of its superstep.
use Rattle.std.specs.Prelude.{◌≡◌, ℕ, ◌+◌, ◌*◌, ◌^◌, ◌<◌, ◌≤◌, false, ◌&&◌, List, [], ◌∷◌, if◌then◌else◌, length, slice_index, slice_index_or}
use Rattle.std.specs.List.{range_with_len, filter, flat_map, count_by, All}
use Rattle.ball_model.specs.declared.names.BatchName.{BatchName}
use Rattle.ball_model.specs.Batches.{BatchValue}
use Rattle.ball_model.specs.Masks.{has_bit}
use Rattle.ball_model.specs.State.{State}
use Rattle.batches.specs.Kept.{rows_at}
use Rattle.replica.specs.Seen.{IsState}

-- vertex i and its registers, if it changed and has an edge into the target
abbrev pub sent_row : State → ℕ → ℕ → List (ℕ × List ℕ)
sent_row v target i =
    if slice_index_or v.marks i false && has_bit (slice_index v.part.feeds i) target
    then (i * v.part.plan.parts + v.part.number, slice_index_or v.rows i []) ∷ []
    else []

-- those of the first n vertices
unfoldable pub sent_rows : State → ℕ → ℕ → List (ℕ × List ℕ)
sent_rows v target n = flat_map (λ i. sent_row v target i) (range_with_len 0 n)

-- the name of a batch
abbrev pub batch_name : ℕ → ℕ → ℕ → BatchName
batch_name t source target = record { superstep = t; source = source; target = target }

-- the batch of these rows
unfoldable pub sent_batch : State → ℕ → ℕ → BatchValue
sent_batch v target n = record {
  plan = v.part.plan;
  name = batch_name v.superstep v.part.number target;
  changed = count_by (λ mark. mark) v.marks;
  rows = sent_rows v target n;
}

-- the registers of vertex i, if it changed
abbrev pub changed_row : State → ℕ → List ℕ
changed_row v i = if slice_index_or v.marks i false then slice_index_or v.rows i [] else []

-- those of the first n vertices, one row after the other
unfoldable pub changed_rows : State → ℕ → List ℕ
changed_rows v n = flat_map (λ i. changed_row v i) (range_with_len 0 n)

-- the registers of all vertices that changed, one row after the other
abbrev pub changed_registers : State → List ℕ
changed_registers v = changed_rows v (length v.part.preds)

-- vertices of a partition, by their places, and their registers, one row after the other
pub record ChangedValue : Type 0 where
  pub vertices : List ℕ
  pub registers : List ℕ

-- of the first n vertices of a partition those that changed, ascending
unfoldable pub changed_first : State → ℕ → List ℕ
changed_first v n = filter (λ i. slice_index_or v.marks i false) (range_with_len 0 n)

-- these are the vertices of the partition that changed, as many as marks are set
pub record AreChangedVertices (v : State) (vertices : List ℕ) : Type 0 where
  pub marks : length v.marks ≡ length v.part.preds
  pub list : vertices ≡ changed_first v (length v.part.preds)
  pub count : length vertices ≡ count_by (λ mark. mark) v.marks
  pub few : length vertices < 2 ^ 32

-- and these their registers
pub record AreChanged (v : State) (changed : ChangedValue) : Type 0 where
  pub vertices : AreChangedVertices v changed.vertices
  pub registers : changed.registers ≡ changed_registers v

-- of the first n vertices `changed` did, and what is sent of them are the rows of these vertices at these places
pub record IsTold (v : State) (target n : ℕ) (ids places : List ℕ) (changed : ℕ) : Type 0 where
  pub rows : rows_at (2 ^ v.part.plan.log2m) (changed_registers v) ids places ≡ sent_rows v target n
  pub count : length ids ≡ length places
  pub within : All (λ p. (p + 1) * 2 ^ v.part.plan.log2m ≤ length (changed_registers v)) places
  pub before : changed * 2 ^ v.part.plan.log2m ≡ length (changed_rows v n)
  pub few : changed ≤ n

-- what a partition is sent is read off these: a state, vertices by their places, and the partition
pub record TellingValue : Type 0 where
  pub state : State
  pub vertices : List ℕ
  pub target : ℕ

-- what the target is sent can be read off these vertices
pub record CanTell (v : State) (vertices : List ℕ) (target : ℕ) : Type 0 where
  pub state : IsState v
  pub changed : AreChangedVertices v vertices
  pub inside : target < v.part.plan.parts

-- the place of vertex k of those that changed, or the end after the last
abbrev pub next_place : TellingValue → ℕ → ℕ
next_place t k = slice_index_or t.vertices k (length t.state.part.preds)

-- what is sent of those before it
abbrev pub IsToldBefore : TellingValue → ℕ → List ℕ → List ℕ → ℕ → Type 0
IsToldBefore t k ids places changed = IsTold t.state t.target (next_place t k) ids places changed
