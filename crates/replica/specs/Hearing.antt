-- What a replica has heard of its superstep, and what becomes of it as batches are heard.
use Rattle.std.specs.Prelude.{◌≡◌, ℕ, ◌+◌, ◌%◌, ◌^◌, ◌⊎◌, Bool, true, false, not, ◌||◌, ◌&&◌, ◌==◌, List, [], ◌∷◌, length, map, replicate, Option, None, is_some, IfSome, IsTrue, slice_index_or, if◌then◌else◌}
use Rattle.std.specs.List.{list_any, range_with_len}
use Rattle.ball_model.specs.Accumulated.{accumulated_of, accumulated_row}
use Rattle.ball_model.specs.Batches.{BatchValue, true_batch, changed_count}
use Rattle.ball_model.specs.Content.{Content}
use Rattle.ball_model.specs.Job.{Job, IsJob, part_of}
use Rattle.ball_model.specs.PlanValue.{PlanValue, mixing_of, most_parts}
use Rattle.ball_model.specs.State.{State, early_at, is_heard, heard_changes}
use Rattle.ball_model.specs.Table.{Table}
use Rattle.registers.specs.Differ.{DifferWhere}
use Rattle.replica.specs.Ahead.{IsTable}
use Rattle.replica.specs.Heard.{StayTouched}
use Rattle.replica.specs.Index.{targets_of}
use Rattle.replica.specs.Kept.{AllRise, AreCounters, AreOfPlan}
use Rattle.replica.specs.Spread.{AreTouched, LeadInside}

-- which sources are heard, whether one of them has a changed vertex, and what is accumulated for each vertex
pub record HeardState : Type 0 where
  pub heard : List Bool
  pub change : Bool
  pub accumulated : List (List ℕ)

abbrev pub hearing_of : List Bool → Bool → List (List ℕ) → HeardState
hearing_of heard change rows = record { heard = heard; change = change; accumulated = rows }

-- that of a replica
abbrev pub hearing_in : State → HeardState
hearing_in v = hearing_of v.heard v.heard_change v.accumulated

-- it is what the definitions say of superstep t
pub record IsTrueHearing (j : Job) (p t : ℕ) (a : HeardState) : Type 0 where
  pub change : a.change ≡ heard_changes j t a.heard
  pub accumulated : a.accumulated ≡ accumulated_of j p t (λ z. is_heard j.plan.parts a.heard z)

-- the batch of one source
abbrev pub batch_by : ℕ → Option BatchValue → ℕ → Option BatchValue
batch_by source told q = if q == source then told else None

-- the batches of the sources are heard too
pub record Hears (log2m : ℕ) (targets : List (List ℕ)) (told : ℕ → Option BatchValue)
    (a b : HeardState) : Type 0 where
  pub count : length b.heard ≡ length a.heard
  pub sources : (q : ℕ) →
      slice_index_or b.heard q false ≡ (slice_index_or a.heard q false || is_some (told q))
  pub rise : AllRise log2m a.accumulated b.accumulated
  pub stands : (j : Job) (p t : ℕ) → IsJob j → targets ≡ targets_of (part_of j p) →
      ((q : ℕ) →
      IfSome (told q) (λ b. b ≡ true_batch j (record { superstep = t; source = q; target = p }))) →
      IsTrueHearing j p t a → IsTrueHearing j p t b

-- ---- what is kept of it beside the rows

-- the sources that are heard, whether one of them has a changed vertex, the accumulators, one of each row or none,
-- and which of them differ from their rows
pub record HearingValue : Type 0 where
  pub heard : List Bool
  pub change : Bool
  pub accumulated : Table
  pub touched : List Bool

-- what was heard, if an accumulator is kept of each row
abbrev pub hearing_kept : HearingValue → HeardState
hearing_kept a = hearing_of a.heard a.change a.accumulated.rows

-- the accumulators: if none are kept beside the rows, they are the rows
unfoldable pub accumulators_of : List (List ℕ) → List (List ℕ) → List (List ℕ)
accumulators_of rows [] = rows
accumulators_of rows (own ∷ rest) = own ∷ rest

-- an accumulator is kept of each row, and those that differ from their rows are marked
abbrev pub KeepsAll : List (List ℕ) → HearingValue → Type 0
KeepsAll rows a = AreTouched rows a.accumulated.rows a.touched

-- none is kept
abbrev pub KeepsNone : HearingValue → Type 0
KeepsNone a = (a.accumulated.rows ≡ []) × (a.touched ≡ [])

abbrev pub KeepsAllOrNone : List (List ℕ) → HearingValue → Type 0
KeepsAllOrNone rows a = KeepsAll rows a ⊎ KeepsNone a

-- there are as many accumulators as rows, and as others
pub record CanJoin (own theirs : Table) (a : HearingValue) : Type 0 where
  pub width : a.accumulated.width ≡ theirs.width
  pub count : length a.accumulated.rows ≡ length theirs.rows
  pub rows : length own.rows ≡ length a.accumulated.rows

-- b has room for what a says beside these rows
pub record CanFill (own : Table) (a b : HearingValue) : Type 0 where
  pub width : own.width ≡ b.accumulated.width
  pub same : a.accumulated.width ≡ b.accumulated.width
  pub count : length own.rows ≡ length b.accumulated.rows
  pub kept : KeepsAllOrNone own.rows a

-- nothing is heard, and what is accumulated are the rows
pub record IsQuiet (rows : Table) (a : HearingValue) : Type 0 where
  pub heard : a.heard ≡ replicate most_parts false
  pub change : a.change ≡ false
  pub accumulated : a.accumulated ≡ rows
  pub kept : KeepsAll rows.rows a

-- once what a has accumulated has become the rows, b begins the next superstep, with these marks of what this has
-- changed
pub record BeginsSuperstep (a b : HearingValue) (marks : List Bool) : Type 0 where
  pub quiet : IsQuiet a.accumulated b
  pub touched : marks ≡ a.touched

-- what a says beside these rows, with an accumulator of each
pub record Fills (rows : Table) (a b : HearingValue) : Type 0 where
  pub heard : b.heard ≡ a.heard
  pub change : b.change ≡ a.change
  pub width : b.accumulated.width ≡ rows.width
  pub accumulated : b.accumulated.rows ≡ accumulators_of rows.rows a.accumulated.rows
  pub kept : KeepsAll rows.rows b

-- beside these rows the two say the same, whatever they keep for it
pub record SaysSame (rows : List (List ℕ)) (a b : HearingValue) : Type 0 where
  pub heard : b.heard ≡ a.heard
  pub change : b.change ≡ a.change
  pub width : b.accumulated.width ≡ a.accumulated.width
  pub accumulated : accumulators_of rows b.accumulated.rows
      ≡ accumulators_of rows a.accumulated.rows
  pub kept : KeepsAllOrNone rows b

-- ---- accumulators that are stale

-- the accumulators, or the rows if those are stale: they are to become these
abbrev pub fresh_table : Bool → Table → Table → Table
fresh_table stale rows accumulated = if stale then rows else accumulated

-- what is heard, with accumulators that have become the rows if they were stale
abbrev pub caught_up : Bool → Table → HearingValue → HearingValue
caught_up stale rows a = record a { accumulated = fresh_table stale rows a.accumulated }

-- accumulators that are stale: they differ from the rows where these are marked alone, and once they are the rows none
-- differs
pub record IsStale (rows : Table) (marks : List Bool) (a : HearingValue) : Type 0 where
  pub differ : DifferWhere marks a.accumulated rows
  pub kept : KeepsAll rows.rows (caught_up true rows a)

-- stale ones are kept in the place of a's, or none is
abbrev pub KeepsStale : Table → List Bool → HearingValue → HearingValue → Type 0
KeepsStale rows marks a spare = KeepsNone spare ⊎ (KeepsNone a × IsStale rows marks spare)

-- beside these rows a keeps accumulators, or there are stale ones in their place, or none
pub record IsSpare (rows : Table) (marks : List Bool) (a spare : HearingValue) : Type 0 where
  pub width : a.accumulated.width ≡ rows.width
  pub spare_width : spare.accumulated.width ≡ rows.width
  pub kept : KeepsAllOrNone rows.rows a
  pub beside : KeepsStale rows marks a spare

-- b says what a says, with the accumulators of both, and nothing is left beside it
pub record TakesBack (rows : Table) (a spare b left : HearingValue) : Type 0 where
  pub same : SaysSame rows.rows a b
  pub count : length b.accumulated.rows ≡ length a.accumulated.rows + length spare.accumulated.rows
  pub width : left.accumulated.width ≡ rows.width
  pub none : KeepsNone left

-- what is lent says what a says, once it is caught up if it is stale, and nothing is heard in b, where none is kept
pub record Lends (rows : Table) (marks : List Bool) (a spare : HearingValue) (stale : Bool)
    (b lent : HearingValue) : Type 0 where
  pub takes : TakesBack rows a spare (caught_up stale rows lent) b
  pub differ : IsTrue stale → DifferWhere marks lent.accumulated rows
  pub heard : b.heard ≡ replicate most_parts false
  pub change : b.change ≡ false

-- the accumulators are stale, and nothing is heard yet beside these rows
pub record BeginsStale (rows : Table) (marks : List Bool) (a : HearingValue) : Type 0 where
  pub stale : IsStale rows marks a
  pub quiet : IsQuiet rows (caught_up true rows a)

-- ---- accumulators that were dropped

-- the accumulators of these rows can be kept again, if they were dropped
pub record CanRenew (rows : Table) (a : HearingValue) : Type 0 where
  pub width : rows.width ≡ a.accumulated.width
  pub kept : KeepsAllOrNone rows.rows a

-- they are
pub record Renews (rows : List (List ℕ)) (a b : HearingValue) : Type 0 where
  pub same : SaysSame rows a b
  pub all : KeepsAll rows b

-- batches of 2^log2m registers a row can be heard by the index
pub record HearsByIndex (log2m : ℕ) (targets : List (List ℕ)) (a : HearingValue) : Type 0 where
  pub sources : length a.heard ≡ most_parts
  pub width : a.accumulated.width ≡ 2 ^ log2m
  pub inside : LeadInside (length a.accumulated.rows) targets
  pub counters : AreCounters log2m a.accumulated.rows

-- the batches of the sources are heard too, and those rows stay marked that differ
pub record HearsAlso (log2m : ℕ) (targets : List (List ℕ)) (told : ℕ → Option BatchValue)
    (a b : HearingValue) : Type 0 where
  pub hears : Hears log2m targets told (hearing_kept a) (hearing_kept b)
  pub width : b.accumulated.width ≡ a.accumulated.width
  pub touched : StayTouched a.accumulated.rows a.touched b.accumulated.rows b.touched

-- the batches that are kept can be heard
pub record CanHear (plan : PlanValue) (targets : List (List ℕ))
    (early : List (List (Option BatchValue))) (a : HearingValue) : Type 0 where
  pub ready : HearsByIndex plan.log2m targets a
  pub kept : AreOfPlan plan early

-- those of the superstep after the next ones that passed are heard, and only later ones are left
pub record HearsEarly (log2m : ℕ) (targets : List (List ℕ)) (passed : ℕ)
    (early left : List (List (Option BatchValue))) (a b : HearingValue) : Type 0 where
  pub also : HearsAlso log2m targets (λ q. early_at early passed q) a b
  pub kept : (i q : ℕ) → early_at left i q ≡ early_at early (i + 1 + passed) q
  pub table : (parts : ℕ) → IsTable parts early → IsTable parts left

-- which sources are held of the superstep
abbrev pub heard_by : Content → List Bool
heard_by c = map (λ q. c.holds c.superstep q) (range_with_len 0 most_parts)

-- a partition that is held of the superstep has a vertex that is changed there
abbrev pub change_by : Job → Content → Bool
change_by j c =
    list_any (λ q. c.holds c.superstep q && not (changed_count j c.superstep q == 0))
    (range_with_len 0 j.plan.parts)

-- what is accumulated for x, if the partitions that are held of the superstep are heard
abbrev pub accumulated_by : Job → Content → ℕ → List ℕ
accumulated_by j c x =
    accumulated_row (mixing_of j.plan) j.graph x c.superstep
    (λ z. c.holds c.superstep (z % j.plan.parts))
