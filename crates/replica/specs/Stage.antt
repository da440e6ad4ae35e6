-- What a replica or a snapshot has, and when a replica can go on with it.
use Rattle.std.specs.Prelude.{◌≡◌, ℕ, ◌+◌, ◌≤◌, ◌⊎◌, true, List, [], length}
use Rattle.ball_model.specs.State.{State}
use Rattle.replica.specs.Level.{is_over}

-- what it shows, the accumulators that it keeps beside the rows, those that are stale, and its room for sums
pub record StageValue : Type 0 where
  pub state : State
  pub kept : List (List ℕ)
  pub spare : List (List ℕ)
  pub room : ℕ

-- there are as many accumulators as rows, or they were dropped as the run is over
abbrev pub HasAccumulators : State → ℕ → Type 0
HasAccumulators v count = (count ≡ length v.rows) ⊎ ((count ≡ 0) × (is_over v ≡ true))

-- a replica can go on with it: it keeps the accumulators that it raises, stale or not, and has room for the sums of all
-- supersteps
pub record CanGoOn (k : StageValue) : Type 0 where
  pub kept : HasAccumulators k.state (length k.kept + length k.spare)
  pub room : k.state.part.plan.limit + 1 ≤ k.room

-- it can, and its run is over
pub record CanLetGo (k : StageValue) : Type 0 where
  pub over : is_over k.state ≡ true
  pub goes_on : CanGoOn k

-- an accumulator is kept of each row, whether the run is over or not, none is stale, and there is that room
pub record IsWhole (k : StageValue) : Type 0 where
  pub kept : length k.kept ≡ length k.state.rows
  pub spare : k.spare ≡ []
  pub room : k.state.part.plan.limit + 1 ≤ k.room

-- what it shows is the same, and a replica can go on with it
pub record StaysSame (k new : StageValue) : Type 0 where
  pub same : new.state ≡ k.state
  pub goes_on : CanGoOn new
