-- What a replica has for each vertex, and the sums of its estimates: as plain data, and what becomes of it.
use Rattle.std.specs.Prelude.{◌≡◌, ℕ, ◌+◌, ◌^◌, ◌<◌, ◌≤◌, Bool, List, ◌∷◌, [], ◌++◌, map, length, Option, None, Some}
use Rattle.std.specs.List.{sum_by}
use Rattle.ball_model.specs.Figures.{TallyValue, Measure, estimate_with}
use Rattle.ball_model.specs.Job.{PartValue}
use Rattle.ball_model.specs.Laws.{IsCounterRow}
use Rattle.ball_model.specs.PlanValue.{greatest_limit, measure_of, most_vertices}
use Rattle.ball_model.specs.Table.{Table}
use Rattle.figures.specs.Values.{weight_of}
use Rattle.registers.specs.Joined.{AreSameShape}
use Rattle.registers.specs.Differ.{DifferWhere}
use Rattle.replica.specs.Heard.{OwnIsHeard}
use Rattle.replica.specs.Hearing.{HearingValue, IsQuiet, KeepsAll}
use Rattle.replica.specs.Index.{targets_of}
use Rattle.replica.specs.Kept.{AllRise, AreCounters, AreLasts, AreSums}
use Rattle.replica.specs.Level.{differences, next_tally, next_tallies, total_of, weights_of}
use Rattle.replica.specs.Relay.{Marked}
use Rattle.replica.specs.Spread.{LeadInside}
use Rattle.replica.specs.Start.{first_figures, first_rows_of_part}

-- the rows, which of them changed, their figures, the sums of the estimates of all supersteps so far, and the room for
-- sums
pub record TablesValue : Type 0 where
  pub rows : Table
  pub marks : List Bool
  pub tallies : List TallyValue
  pub sums : List ℕ
  pub room : ℕ

-- a mark and figures for each row
pub record HasEach (a : TablesValue) : Type 0 where
  pub marks : length a.marks ≡ length a.rows.rows
  pub tallies : length a.tallies ≡ length a.rows.rows

-- what a replica of the part begins with
pub record AreFirst (part : PartValue) (a : TablesValue) : Type 0 where
  pub rows : a.rows ≡ record { width = 2 ^ part.plan.log2m; rows = first_rows_of_part part }
  pub marks : a.marks ≡ part.counted
  pub tallies : a.tallies ≡ first_figures (measure_of part.plan) (first_rows_of_part part)
  pub sums : a.sums ≡ total_of (measure_of part.plan) (first_rows_of_part part) ∷ []
  pub room : part.plan.limit + 1 ≤ a.room

-- b has room for what a has
pub record HasRoomFor (a b : TablesValue) : Type 0 where
  pub rows : AreSameShape b.rows a.rows
  pub sums : length a.sums ≤ b.room

-- sums have become others, within the room that was taken for them
pub record AreRefilled (others sums : List ℕ) (before after : ℕ) : Type 0 where
  pub items : sums ≡ others
  pub capacity : after ≡ before

-- ---- one superstep more

-- the accumulators are the rows, raised, and those are marked that differ from their rows
pub record AreAhead (log2m : ℕ) (rows : Table) (h : HearingValue) : Type 0 where
  pub counters : AreCounters log2m rows.rows
  pub rise : AllRise log2m rows.rows h.accumulated.rows
  pub width : rows.width ≡ h.accumulated.width
  pub kept : KeepsAll rows.rows h

-- the rows as they were before they went on: those that were handed out, or else those that are shown
unfoldable pub rows_before : Table → Option (Marked Table) → Table
rows_before rows None = rows
rows_before rows (Some before) = before.table

-- figures can be stepped to those of superstep t, of the rows ahead, from which the rows differ where they are marked
pub record CanBeStepped (m : Measure) (t : ℕ) (old new : Table) (marks : List Bool)
    (own : List ℕ) (tallies : List TallyValue) : Type 0 where
  pub from : 0 < t
  pub to : t ≤ greatest_limit
  pub rows : AreCounters m.log2m old.rows
  pub ahead : AreCounters m.log2m new.rows
  pub differ : DifferWhere marks old new
  pub weights : own ≡ weights_of old.rows
  pub count : length tallies ≡ length new.rows
  pub lasts : AreLasts m new.rows marks tallies

-- the figures of a row can, which becomes the one ahead
pub record CanStepRow (m : Measure) (t : ℕ) (old new : List ℕ) (own last : ℕ) : Type 0 where
  pub from : 0 < t
  pub to : t ≤ greatest_limit
  pub row : IsCounterRow m.log2m old
  pub ahead : IsCounterRow m.log2m new
  pub weight : own ≡ weight_of old
  pub grown : last ≤ estimate_with m new

-- they can be stepped, row by row, as the rows go on to those ahead, from which they differ where they are marked
pub record CanStepMarked (m : Measure) (t : ℕ) (rows : Table) (before : Option (Marked Table)) (new : Table)
    (marks : List Bool) (own : List ℕ) (tallies : List TallyValue) : Type 0 where
  pub differ : DifferWhere marks rows new
  pub can : CanBeStepped m t (rows_before rows before) new marks own tallies

-- figures and weights are those at superstep t of the rows ahead, the last estimates have gained so much in all, and the
-- rows have become those ahead
pub record AreStepped (m : Measure) (t : ℕ) (new : Table) (before after : List TallyValue)
    (own : List ℕ) (gained : ℕ) (shown : Table) : Type 0 where
  pub tallies : after ≡ next_tallies m t new.rows before (length new.rows)
  pub weights : own ≡ weights_of new.rows
  pub gain : sum_by (λ tally. tally.last) after ≡ sum_by (λ tally. tally.last) before + gained
  pub rows : shown ≡ new

-- the figures and the weight of a row are those at superstep t of the row ahead, and its estimate has gained so much
pub record IsStepped (m : Measure) (t : ℕ) (new : List ℕ) (before after : TallyValue)
    (own gained : ℕ) : Type 0 where
  pub figures : after ≡ next_tally t before (estimate_with m new)
  pub weight : own ≡ weight_of new
  pub gain : after.last ≡ before.last + gained
  pub small : gained < 2 ^ 64

-- the tables of superstep t can go on to the accumulators
pub record CanStep (m : Measure) (t : ℕ) (a : TablesValue) (h : HearingValue) (own : List ℕ) :
    Type 0 where
  pub to : t < greatest_limit
  pub few : length a.rows.rows ≤ most_vertices
  pub ahead : AreAhead m.log2m a.rows h
  pub lasts : map (λ tally. tally.last) a.tallies ≡ map (estimate_with m) a.rows.rows
  pub sums : AreSums t (sum_by (λ tally. tally.last) a.tallies) a.sums
  pub room : t + 1 < a.room
  pub weights : own ≡ weights_of a.rows.rows

-- they went on: the accumulators are the rows, of which nothing is heard yet
pub record NextTables (m : Measure) (t : ℕ) (a b : TablesValue) (h g : HearingValue) (own : List ℕ)
    : Type 0 where
  pub rows : b.rows ≡ h.accumulated
  pub marks : b.marks ≡ differences a.rows.rows h.accumulated.rows (length a.rows.rows)
  pub tallies : b.tallies ≡
      next_tallies m (t + 1) h.accumulated.rows a.tallies (length a.rows.rows)
  pub sums : b.sums ≡ a.sums ++ total_of m h.accumulated.rows ∷ []
  pub gains : sum_by (λ tally. tally.last) a.tallies ≤ total_of m h.accumulated.rows
  pub room : b.room ≡ a.room
  pub quiet : IsQuiet b.rows g
  pub weights : own ≡ weights_of b.rows.rows

-- what changed in the own partition can be heard too
pub record CanHearOwn (part : PartValue) (targets : List (List ℕ)) (a : TablesValue)
    (h : HearingValue) : Type 0 where
  pub count : length a.rows.rows ≡ length part.preds
  pub marks : length a.marks ≡ length part.preds
  pub inside : LeadInside (length h.accumulated.rows) targets
  pub ahead : AreAhead part.plan.log2m a.rows h

-- it is heard too, and what is heard of others stays
pub record HearsOwn (part : PartValue) (targets : List (List ℕ)) (a : TablesValue)
    (h g : HearingValue) : Type 0 where
  pub ahead : AreAhead part.plan.log2m a.rows g
  pub stands : OwnIsHeard targets part a.rows.rows a.marks h.accumulated.rows g.accumulated.rows
  pub heard : g.heard ≡ h.heard
  pub change : g.change ≡ h.change

-- the tables of superstep t can hear what changed in the own partition, and go on
pub record CanGoFurther (part : PartValue) (m : Measure) (t : ℕ) (a : TablesValue) (h : HearingValue)
    (own : List ℕ) : Type 0 where
  pub hear : CanHearOwn part (targets_of part) a h
  pub step : CanStep m t a h own
  pub log2m : m.log2m ≡ part.plan.log2m

-- they have heard it, and then went on
pub record GoFurther (part : PartValue) (m : Measure) (t : ℕ) (a b : TablesValue) (h g : HearingValue)
    (own : List ℕ) : Type 0 where
  pub between : HearingValue
  pub hears : HearsOwn part (targets_of part) a h between
  pub next : NextTables m t a b between g own
