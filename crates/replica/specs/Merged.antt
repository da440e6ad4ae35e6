-- What two replicas of one partition make of what they have: merging, over plain data.
use Rattle.std.specs.Prelude.{◌≡◌, ℕ, List, Option, Result, max}
use Rattle.ball_model.specs.declared.names.MergeError.{MergeError}
use Rattle.ball_model.specs.Batches.{BatchValue}
use Rattle.ball_model.specs.Job.{Job}
use Rattle.ball_model.specs.Join.{union_of, merge_of}
use Rattle.ball_model.specs.State.{State, StandsFor, content_of, further}
use Rattle.replica.specs.Index.{targets_of}
use Rattle.replica.specs.Stage.{CanGoOn, IsWhole, StageValue}
use Rattle.replica.specs.Seen.{IsState}

-- the superstep, the rows, the marks, the figures and the sums are those of another replica
pub record ShowsAs (v w : State) : Type 0 where
  pub superstep : v.superstep ≡ w.superstep
  pub rows : v.rows ≡ w.rows
  pub marks : v.marks ≡ w.marks
  pub tallies : v.tallies ≡ w.tallies
  pub sums : v.sums ≡ w.sums

-- the answer to a merge with a snapshot of o, if memory is there
abbrev pub merge_answer : State → State → Result (Unit {0}) MergeError
merge_answer v o = merge_of v.part.plan v.part.number o.part.plan o.part.number

-- of the batches that either holds, w holds those of its superstep and later ones
abbrev pub HoldsOfBoth : State → State → State → Type 0
HoldsOfBoth v o w =
    (s q : ℕ) → (content_of w).holds s q ≡ (union_of (content_of v) (content_of o)).holds s q

-- two of one plan and one partition
pub record AreOfOnePart (v o : State) : Type 0 where
  pub plan : v.part.plan ≡ o.part.plan
  pub number : v.part.number ≡ o.part.number

-- two of one plan and one partition; these are the batches that the other one keeps
pub record CanAbsorb (v o : State) (shared : List (List (Option BatchValue))) : Type 0 where
  pub plan : v.part.plan ≡ o.part.plan
  pub number : v.part.number ≡ o.part.number
  pub batches : shared ≡ o.early

-- w is v once it has taken over what o knows
pub record Absorbs (v o w : State) : Type 0 where
  pub part : w.part ≡ v.part
  pub shown : ShowsAs w (further v o)
  pub names : HoldsOfBoth v o w
  pub stands : (j : Job) (p t u : ℕ) → StandsFor j p t v → StandsFor j p u o →
      StandsFor j p (max t u) w

-- a replica that has k, and can go on with it, can take over what l knows by the index
pub record CanTakeIn (k l : StageValue) (shared : List (List (Option BatchValue)))
    (targets : List (List ℕ)) : Type 0 where
  pub two : CanAbsorb k.state l.state shared
  pub goes_on : CanGoOn k
  pub index : targets ≡ targets_of k.state.part

-- a replica that has k, and keeps an accumulator of each row, can take over what l knows by the index
pub record CanTakeOver (k l : StageValue) (shared : List (List (Option BatchValue)))
    (targets : List (List ℕ)) : Type 0 where
  pub two : CanAbsorb k.state l.state shared
  pub whole : IsWhole k
  pub index : targets ≡ targets_of k.state.part

-- w is v once it has taken over what o knows, if both keep the limits of every replica
pub record TakesIn (v o w : State) : Type 0 where
  pub absorbs : Absorbs v o w
  pub mine : IsState v
  pub theirs : IsState o

-- new is k once it has taken over what l knows, and keeps an accumulator of each row
pub record TakesOver (k l new : StageValue) : Type 0 where
  pub absorbs : Absorbs k.state l.state new.state
  pub whole : IsWhole new
