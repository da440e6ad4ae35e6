-- What a checkpoint has of a replica, and when a replica is made of it.
use Rattle.std.specs.Prelude.{◌≡◌, ◌≢◌, ℕ, ◌+◌, ◌*◌, ◌^◌, ◌<◌, ◌≤◌, List, Option, map, length, slice_index_or}
use Rattle.std.specs.Arc.{arc_value}
use Rattle.std.specs.List.{All, sum_by}
use Rattle.figures.specs.Values.{value_of}
use Rattle.ball_model.specs.Batches.{BatchValue}
use Rattle.ball_model.specs.Checkpoint.{kept_batches}
use Rattle.ball_model.specs.Figures.{TallyValue, estimate_with}
use Rattle.ball_model.specs.Job.{PartValue}
use Rattle.ball_model.specs.PlanValue.{PlanValue, greatest_limit, measure_of, most_parts}
use Rattle.ball_model.specs.State.{State}
use Rattle.ball_model.specs.Table.{Table}
use Rattle.replica.specs.declared.early.TheConstants.{LEVELS}
use Rattle.replica.specs.declared.saved.Saved.{Saved}
use Rattle.replica.specs.Kept.{AreCounters, AreEarly, AllRise, AreSums, AreSources}
use Rattle.replica.specs.Stage.{CanGoOn, StageValue}
use Rattle.replica.specs.Seen.{IsState}

-- figures that a run can have
pub record IsFigures (v : TallyValue) : Type 0 where
  pub harm : v.harm ≤ v.last
  pub dist : v.dist ≤ greatest_limit * v.last

-- the limits that every replica keeps, and figures that a run can have
pub record IsKeepable (v : State) : Type 0 where
  pub state : IsState v
  pub figures : All IsFigures v.tallies

-- a batch of the plan that a replica of partition p at superstep t may keep: of one of the three supersteps that
-- follow, from another partition to p
pub record MayKeep (plan : PlanValue) (p t : ℕ) (b : BatchValue) : Type 0 where
  pub plan_is : b.plan ≡ plan
  pub target : b.name.target ≡ p
  pub source : b.name.source ≢ p
  pub from : t < b.name.superstep
  pub to : b.name.superstep ≤ t + LEVELS

-- where the batch is among others: by superstep, then by source
abbrev pub order_key : BatchValue → ℕ
order_key b = b.name.superstep * most_parts + b.name.source

-- such batches, ascending by superstep, then by source
pub record MayBeKept (plan : PlanValue) (p t : ℕ) (batches : List BatchValue) : Type 0 where
  pub each : All (MayKeep plan p t) batches
  pub ascending : (i j : ℕ) → i < j → j < length batches →
      slice_index_or (map order_key batches) i 0 < slice_index_or (map order_key batches) j 0

-- its superstep is in time, and it has a row and a mark for each vertex of the part
pub record HasRows (part : PartValue) (s : Saved) : Type 0 where
  pub superstep : s.superstep ≤ part.plan.limit
  pub width : s.rows.width ≡ 2 ^ part.plan.log2m
  pub count : length s.rows.rows ≡ length part.preds
  pub rows : AreCounters part.plan.log2m s.rows.rows
  pub marks : length s.marks.items ≡ length part.preds

-- each last estimate is that of the row, the figures are some that a run can have, and the sums rise to that of the
-- last estimates
pub record HasFigures (part : PartValue) (s : Saved) : Type 0 where
  pub lasts : map (λ tally. tally.last) (map value_of s.tallies.items) ≡
      map (estimate_with (measure_of part.plan)) s.rows.rows
  pub limits : All IsFigures (map value_of s.tallies.items)
  pub sums : AreSums s.superstep (sum_by (λ tally. tally.last) (map value_of s.tallies.items))
      s.sums.items

-- it has heard other partitions alone, and no accumulator is below its row
pub record HasHeard (part : PartValue) (s : Saved) : Type 0 where
  pub heard : AreSources part.plan.parts part.number s.heard
  pub width : s.accumulated.width ≡ 2 ^ part.plan.log2m
  pub accumulated : AllRise part.plan.log2m s.rows.rows s.accumulated.rows

-- as many rows as rows, all of the plan's width
pub record AreOfWidth (plan : PlanValue) (rows accumulated : Table) : Type 0 where
  pub count : length accumulated.rows ≡ length rows.rows
  pub width : rows.width ≡ 2 ^ plan.log2m
  pub same : accumulated.width ≡ 2 ^ plan.log2m

-- a replica of the part can have all this
pub record Fits (part : PartValue) (s : Saved) : Type 0 where
  pub rows : HasRows part s
  pub figures : HasFigures part s
  pub heard : HasHeard part s
  pub early : MayBeKept part.plan part.number s.superstep (map arc_value s.early.items)

-- the replica of the part that has all this, and nothing else
pub record IsRebuilt (part : PartValue) (s : Saved) (v : State) : Type 0 where
  pub part_is : v.part ≡ part
  pub superstep : v.superstep ≡ s.superstep
  pub rows : v.rows ≡ s.rows.rows
  pub marks : v.marks ≡ s.marks.items
  pub tallies : v.tallies ≡ map value_of s.tallies.items
  pub sums : v.sums ≡ s.sums.items
  pub heard : v.heard ≡ s.heard
  pub heard_change : v.heard_change ≡ s.heard_change
  pub accumulated : v.accumulated ≡ s.accumulated.rows
  pub early : kept_batches v.early ≡ map arc_value s.early.items

-- these batches are kept, each at its place
pub record KeepsInPlace (plan : PlanValue) (p t : ℕ) (batches : List BatchValue)
    (early : List (List (Option BatchValue))) : Type 0 where
  pub told : kept_batches early ≡ batches
  pub placed : AreEarly plan p t early

-- what a replica of the part has that is made of it: with room, a replica can go on with it
pub record IsRemade (part : PartValue) (s : Saved) (k : StageValue) : Type 0 where
  pub fields : IsRebuilt part s k.state
  pub keepable : IsKeepable k.state
  pub goes_on : CanGoOn k

-- what a replica can have, in rows of its width, fits its part. It is the contract of a function of src/laws.rt.
abbrev pub HadFits : Type 0
HadFits = (part : PartValue) (s : Saved) (v : State) → IsKeepable v → IsRebuilt part s v →
    s.rows.width ≡ 2 ^ part.plan.log2m → s.accumulated.width ≡ 2 ^ part.plan.log2m → Fits part s
