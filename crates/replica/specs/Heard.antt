-- What accumulators have heard once rows are spread, and what spreading keeps.
use Rattle.std.specs.Prelude.{◌≡◌, ℕ, ◌<◌, ◌%◌, Bool, false, ◌||◌, ◌==◌, IsTrue, List, [], length, slice_index_or}
use Rattle.ball_model.specs.Accumulated.{accumulated_of}
use Rattle.ball_model.specs.Batches.{BatchValue, true_batch}
use Rattle.ball_model.specs.Change.{changed_at}
use Rattle.ball_model.specs.Counter.{ball_counter}
use Rattle.ball_model.specs.Job.{Job, IsJob, PartValue, part_of}
use Rattle.ball_model.specs.PlanValue.{mixing_of}
use Rattle.ball_model.specs.State.{rows_of, marks_of}
use Rattle.ball_model.specs.Table.{Table}
use Rattle.replica.specs.Index.{targets_of}
use Rattle.replica.specs.Spread.{own_rows, raised_at, raised_by, rows_after, touched_at, AreTouched, CanSpreadRows}

-- if the registers are the counter of a changed vertex z, what was heard becomes that and z
abbrev pub RowIsHeard : List (List ℕ) → ℕ → List ℕ → List (List ℕ) → List (List ℕ) → Type 0
RowIsHeard targets z registers old new =
    (j : Job) (p t : ℕ) (heard : ℕ → Bool) → IsJob j → targets ≡ targets_of (part_of j p) →
    IsTrue (changed_at (mixing_of j.plan) j.graph z t) →
    registers ≡ ball_counter (mixing_of j.plan) j.graph z t →
    old ≡ accumulated_of j p t heard → new ≡ accumulated_of j p t (λ w. heard w || (w == z))

-- if the batch is the true one of source q, what was heard becomes that and the vertices of q
abbrev pub BatchIsHeard : List (List ℕ) → BatchValue → List (List ℕ) → List (List ℕ) → Type 0
BatchIsHeard targets batch old new =
    (j : Job) (p t q : ℕ) (heard : ℕ → Bool) → IsJob j → targets ≡ targets_of (part_of j p) →
    batch ≡ true_batch j (record { superstep = t; source = q; target = p }) →
    old ≡ accumulated_of j p t heard →
    new ≡ accumulated_of j p t (λ w. heard w || (w % j.plan.parts == q))

-- if the rows are the counters and the marks say which are changed, what was heard becomes that and the own vertices
abbrev pub OwnIsHeard : List (List ℕ) → PartValue → List (List ℕ) → List Bool → List (List ℕ) →
    List (List ℕ) → Type 0
OwnIsHeard targets part rows marks old new =
    (j : Job) (p t : ℕ) (heard : ℕ → Bool) → IsJob j → p < j.plan.parts →
    part ≡ part_of j p → targets ≡ targets_of part → rows ≡ rows_of j p t → marks ≡ marks_of j p t →
    old ≡ accumulated_of j p t heard →
    new ≡ accumulated_of j p t (λ w. heard w || (w % j.plan.parts == p))

-- each mark is set if it was set or its accumulator has become another
abbrev pub MarksChanges : List Bool → List (List ℕ) → List (List ℕ) → List Bool → Type 0
MarksChanges marks old new later =
    (i : ℕ) → i < length old → slice_index_or later i false ≡ touched_at marks old new i

-- before other registers are spread to these places, marks are set of rows alone that this makes others
abbrev pub MarksBefore : List ℕ → List ℕ → List (List ℕ) → List Bool → List Bool → Type 0
MarksBefore places registers rows marks later = (i : ℕ) → i < length rows →
    touched_at later rows (rows_after places registers rows) i
    ≡ touched_at marks rows (rows_after places registers rows) i

-- whatever the rows, marks that said which accumulators differ from them still do
abbrev pub StayTouched : List (List ℕ) → List Bool → List (List ℕ) → List Bool → Type 0
StayTouched old marks new later =
    (rows : List (List ℕ)) → AreTouched rows old marks → AreTouched rows new later

-- rows at these places are raised, and those that this changes are marked
pub record Raises (places registers : List ℕ) (old new : Table) (before after : List Bool) :
    Type 0 where
  pub rows : new ≡ raised_at places registers old
  pub marks : MarksChanges before old.rows new.rows after

-- the row of vertex z is spread, and further ones can be
pub record SpreadsRow (targets : List (List ℕ)) (z : ℕ) (registers : List ℕ) (old new : Table)
    (before after : List Bool) : Type 0 where
  pub rows : new ≡ raised_at (slice_index_or targets z []) registers old
  pub marks : MarksChanges before old.rows new.rows after
  pub touched : StayTouched old.rows before new.rows after
  pub stands : RowIsHeard targets z registers old.rows new.rows
  pub can : CanSpreadRows targets (length registers) new after

-- the rows of a batch are
pub record SpreadsBatch (targets : List (List ℕ)) (batch : BatchValue) (old new : Table)
    (before after : List Bool) : Type 0 where
  pub rows : new ≡ raised_by targets batch.rows old
  pub touched : StayTouched old.rows before new.rows after
  pub stands : BatchIsHeard targets batch old.rows new.rows

-- the own rows that are marked are
pub record SpreadsOwn (targets : List (List ℕ)) (part : PartValue) (own : List (List ℕ))
    (marks : List Bool) (old new : Table) (before after : List Bool) : Type 0 where
  pub rows : new ≡ raised_by targets (own_rows part own marks) old
  pub touched : StayTouched old.rows before new.rows after
  pub stands : OwnIsHeard targets part own marks old.rows new.rows
