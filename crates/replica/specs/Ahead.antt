-- Batches of supersteps to come, by how far they are ahead and by source.
use Rattle.std.specs.Prelude.{◌≡◌, ℕ, ◌+◌, ◌*◌, ◌<◌, ◌==◌, ◌&&◌, if◌then◌else◌, List, [], map, length, Option, None, Some, option_map, slice_index_or, drop, ◌++◌, replicate, nat_lt}
use Rattle.std.specs.List.{range_with_len, filter, slice_get}
use Rattle.ball_model.specs.declared.names.BatchName.{BatchName}
use Rattle.ball_model.specs.Batches.{BatchValue, true_batch}
use Rattle.ball_model.specs.Content.{names_of}
use Rattle.ball_model.specs.Job.{Job}
use Rattle.ball_model.specs.State.{State, content_of, early_at}
use Rattle.replica.specs.declared.early.TheConstants.{LEVELS}

-- slots, one for each of three supersteps and each source, as a table
unfoldable pub table_of : ℕ → List (Option BatchValue) → List (List (Option BatchValue))
table_of parts slots =
    map (λ i. map (λ q. slice_index_or slots (i * parts + q) None) (range_with_len 0 parts))
    (range_with_len 0 LEVELS)

-- of each of three supersteps a place for each source
pub record IsTable (parts : ℕ) (early : List (List (Option BatchValue))) : Type 0 where
  pub levels : length early ≡ LEVELS
  pub sources : (i : ℕ) → i < LEVELS → length (slice_index_or early i []) ≡ parts

-- and none is kept
pub record IsEmptyTable (parts : ℕ) (early : List (List (Option BatchValue))) : Type 0 where
  pub table : IsTable parts early
  pub none : (i q : ℕ) → early_at early i q ≡ None

-- a place for each source as before
abbrev pub StaysTable : List (List (Option BatchValue)) → List (List (Option BatchValue)) → Type 0
StaysTable early later = (parts : ℕ) → IsTable parts early → IsTable parts later

-- `count` supersteps have passed
pub record ComesNearer (count : ℕ) (early later : List (List (Option BatchValue))) : Type 0 where
  pub kept : (i k : ℕ) → early_at later i k ≡ early_at early (i + count) k
  pub table : StaysTable early later

-- a batch is kept too
pub record KeepsAlso (level source : ℕ) (b : BatchValue)
    (early later : List (List (Option BatchValue))) : Type 0 where
  pub kept : (i k : ℕ) → early_at later i k ≡
      (if (i == level) && (k == source) then Some b else early_at early i k)
  pub table : StaysTable early later

-- the batches that follow the first slots
abbrev pub slots_after : ℕ → List (Option BatchValue) → List (Option BatchValue)
slots_after count slots = drop count slots ++ replicate count None

-- the one batch, else the other
abbrev pub either : Option BatchValue → Option BatchValue → Option BatchValue
either None other = other
either (Some b) other = Some b

-- if there was none, that of the other one is kept
pub record KeepsEither (early other later : List (List (Option BatchValue))) : Type 0 where
  pub kept : (i k : ℕ) → early_at later i k ≡ either (early_at early i k) (early_at other i k)
  pub table : StaysTable early later

-- what either keeps at each place; if both do, that of the first
unfoldable pub union_of_slots : List (Option BatchValue) → List (Option BatchValue) →
    List (Option BatchValue)
union_of_slots slots others =
    map (λ i. either (slice_index_or slots i None) (slice_index_or others i None))
    (range_with_len 0 (length slots))

-- the names that are held of later supersteps, ascending by superstep, then by source
unfoldable pub early_names : State → List BatchName
early_names v =
    filter (λ name. nat_lt v.superstep name.superstep)
    (names_of v.part.plan v.part.number (content_of v))

-- the true batch of the i-th of them
abbrev pub true_early : Job → State → ℕ → Option BatchValue
true_early j v i = option_map (true_batch j) (slice_get (early_names v) i)
