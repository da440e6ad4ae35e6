-- A replica that is made: at superstep 0, of what a checkpoint tells, or as a copy.
use Rattle.std.proofs.Common.{◌≡◌, ℕ, ◌+◌, ◌^◌, ◌≤◌, Bool, List, [], length, map, refl, ap, sym, ◌∙◌, subst, arith, inl}
use Rattle.replica.proofs.Names.{None, arc_value, kept_batches, nil_from_length, IsPart, PartValue, State, early_at, Table, value_of}
use Rattle.replica.specs.declared.stage.Stage.TheInside as stage
use Rattle.replica.specs.declared.saved.Saved.{Saved}
use Rattle.replica.specs.Ahead.{IsTable}
use Rattle.replica.specs.First.{BeginsAs, FirstValue}
use Rattle.replica.specs.Hearing.{HearingValue, IsQuiet, KeepsAllOrNone, SaysSame}
use Rattle.replica.specs.Kept.{AreEarly}
use Rattle.replica.specs.Level.{differences}
use Rattle.replica.specs.Stage.{CanGoOn}
use Rattle.replica.specs.Saved.{Fits, IsKeepable, IsRebuilt}
use Rattle.replica.specs.Seen.{IsStage, IsState, stage_of, state_of}
use Rattle.replica.specs.Start.{alone, first_row, first_rows_of_part, Starts}
use Rattle.replica.specs.Tables.{AreFirst, TablesValue}
use Rattle.replica.proofs.HearingLemmas.Accumulator.{NoneSpare, can_go_on, fields_are, fields_of, kept_stage, said_same}
use Rattle.replica.proofs.MergedLemmas.Merge.{touched_from}
use Rattle.replica.proofs.SavedLemmas.Saved.{rebuilt_state}
use Rattle.replica.proofs.StartLemmas.Start.{starts_state}

-- none is stale where nothing is kept beside the rows
bare_spare : (r : stage.Inside) → r.tables.rows.width ≡ 2 ^ (arc_value r.part).plan.log2m → IsQuiet (record { width = r.tables.rows.width; rows = [] }) r.spare → NoneSpare r
bare_spare r width bare = record {
  wide = ap (λ (t : Table). t.width) bare.accumulated ∙ width;
  none = (ap (λ (t : Table). t.rows) bare.accumulated, nil_from_length r.spare.touched bare.kept.marks);
}

-- ---- at superstep 0

pub record Begun (r : stage.Inside) : Type 0 where
  pub limits : IsStage r
  pub starts : Starts (arc_value r.part) (state_of r)

pub begun : (r : stage.Inside) (first : FirstValue) → IsPart (arc_value r.part) → r.superstep ≡ 0 → BeginsAs (arc_value r.part) first → r.tables ≡ first.tables → r.hearing ≡ first.hearing → IsTable (arc_value r.part).plan.parts r.early → ((i q : ℕ) → early_at r.early i q ≡ None) → IsQuiet (record { width = r.tables.rows.width; rows = [] }) r.spare → Begun r
begun r first part at begins tables hearing table none bare =
    let here : AreFirst (arc_value r.part) r.tables = subst (λ (a : TablesValue). AreFirst (arc_value r.part) a) (sym tables) begins.tables in
    let quiet : IsQuiet r.tables.rows r.hearing = rw (tables, hearing) begins.quiet in
    let width = ap (λ (t : Table). t.width) here.rows in
    let accumulated = ap (λ (t : Table). t.rows) quiet.accumulated in
    let is : Starts (arc_value r.part) (fields_of r) = grind arith in
    record {
      limits = kept_stage r (starts_state (arc_value r.part) (fields_of r) part is) width (ap (λ (t : Table). t.width) quiet.accumulated ∙ width) quiet.kept (bare_spare r width bare);
      starts = subst (λ (v : State). Starts (arc_value r.part) v) (fields_are r (ap length accumulated)) is;
    }

-- what a replica begins with is the same under another job digest
pub begins_signed : (part : PartValue) (job : List ℕ) (first : FirstValue) → BeginsAs part first → BeginsAs (record part { plan = record part.plan { job = job } }) first
unfolding first_rows_of_part first_row alone
begins_signed part job first b = record {
  tables = record { rows = b.tables.rows; marks = b.tables.marks; tallies = b.tables.tallies; sums = b.tables.sums; room = b.tables.room };
  quiet = b.quiet;
  measure = b.measure;
  weights = b.weights;
}

-- ---- of what a checkpoint tells

pub record Remade (r : stage.Inside) (s : Saved) : Type 0 where
  pub limits : IsStage r
  pub fields : IsRebuilt (arc_value r.part) s (state_of r)
  pub keepable : IsKeepable (state_of r)
  pub goes_on : CanGoOn (stage_of r)

pub remade : (r : stage.Inside) (s : Saved) (sums : List ℕ) (room : ℕ) (touched : List Bool) → IsPart (arc_value r.part) → Fits (arc_value r.part) s → r.superstep ≡ s.superstep →
    r.tables ≡ record { rows = s.rows; marks = s.marks.items; tallies = map value_of s.tallies.items; sums = sums; room = room } → sums ≡ s.sums.items → (arc_value r.part).plan.limit + 1 ≤ room →
    r.hearing ≡ record { heard = s.heard; change = s.heard_change; accumulated = s.accumulated; touched = touched } → touched ≡ differences s.rows.rows s.accumulated.rows (length s.rows.rows) →
    AreEarly (arc_value r.part).plan (arc_value r.part).number s.superstep r.early → kept_batches r.early ≡ map arc_value s.early.items → IsQuiet (record { width = r.tables.rows.width; rows = [] }) r.spare → Remade r s
remade r s sums room touched part fits at tables same enough hearing marked early kept bare =
    let is : IsRebuilt (arc_value r.part) s (fields_of r) = grind arith in
    let st = rebuilt_state (arc_value r.part) s (fields_of r) part fits is early in
    let whole = fields_are r st.accumulated.count in
    let width = ap (λ (t : TablesValue). t.rows.width) tables ∙ fits.rows.width in
    let spare = bare_spare r width bare in
    record {
      limits = kept_stage r st width (ap (λ (a : HearingValue). a.accumulated.width) hearing ∙ fits.heard.width)
          (rw (tables, hearing) (touched_from (arc_value r.part).plan.log2m (length s.rows.rows) s.rows.rows s.accumulated.rows touched fits.rows.rows fits.heard.accumulated refl marked)) spare;
      fields = subst (λ (v : State). IsRebuilt (arc_value r.part) s v) whole is;
      keepable = record { state = subst (λ (v : State). IsState v) whole st; figures = rw tables fits.figures.limits };
      goes_on = can_go_on r spare st.accumulated.count (rw tables enough);
    }

-- ---- as a copy

pub record Copied (r copy : stage.Inside) : Type 0 where
  pub limits : IsStage copy
  pub same : state_of copy ≡ state_of r

pub copied : (r copy : stage.Inside) → IsStage r → arc_value copy.part ≡ arc_value r.part → copy.superstep ≡ r.superstep → copy.tables ≡ record r.tables { room = copy.tables.room } → SaysSame r.tables.rows.rows r.hearing copy.hearing → copy.early ≡ r.early → IsQuiet (record { width = r.tables.rows.width; rows = [] }) copy.spare → Copied r copy
copied r copy ok part at tables said early bare =
    let fields : state_of copy ≡ state_of (record r { hearing = copy.hearing }) = grind arith in
    let same = fields ∙ said_same r copy.hearing said in
    let width = ap (λ (a : PartValue). 2 ^ a.plan.log2m) (sym part) in
    record {
      limits = record {
        state = subst (λ (v : State). IsState v) (sym same) ok.state;
        width = ap (λ (t : TablesValue). t.rows.width) tables ∙ ok.width ∙ width;
        accumulated_width = said.width ∙ ok.accumulated_width ∙ width;
        spare_width = ap (λ (t : Table). t.width) bare.accumulated ∙ ok.width ∙ width;
        spare = inl (ap (λ (t : Table). t.rows) bare.accumulated, nil_from_length copy.spare.touched bare.kept.marks);
        kept = subst (λ (t : TablesValue). KeepsAllOrNone t.rows.rows copy.hearing) (sym tables) said.kept;
      };
      same = same;
    }
