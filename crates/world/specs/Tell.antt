-- What is written of a text, to its end or not.
use Rattle.std.specs.Prelude.{◌≡◌, ◌≢◌, ℕ, List, ◌++◌, Option, Result, MatchResult}
use Rattle.std.specs.Io.KnownBytes.{Appends}
use Rattle.ball_model.specs.Held.{HasHolding}
use Rattle.ball_model.specs.Job.{Job}
use Rattle.ball_model.specs.Join.{Holding}
use Rattle.ball_model.specs.State.{State}
use Rattle.ball_model.specs.Streams.{RisesByOne, TextWritten}
use Rattle.ball_model.specs.declared.world.Answer.{Answer}
use Rattle.ball_model.specs.declared.world.Answer.TheVariants as answer
use Rattle.ball_model.specs.declared.world.WorldError.{WorldError}
use Rattle.std.specs.Prelude.{Bool, true, false, Ok, Err}
use Rattle.world.specs.declared.tell.TellError.{TellError}
use Rattle.world.specs.declared.tell.TellError.TheVariants as fault

-- a beginning of the text was appended, which may be all of it or nothing
pub record BeginsText (old new : Option (List ℕ)) (text : List ℕ) : Type 0 where
  pub front : List ℕ
  pub rest : List ℕ
  pub split : text ≡ front ++ rest
  pub appended : Appends old new front

-- a writer of these contents was given a beginning of the text; a call of it failed if the fault is of a write, and
-- only then
pub record Stopped {W : Type 0} (contents : W → Option (List ℕ)) (failed : W → ℕ) (old new : W)
    (text : List ℕ) (e : TellError) : Type 0 where
  pub begun : BeginsText (contents old) (contents new) text
  pub failed_one : e ≡ fault.Write → RisesByOne (failed old) (failed new)
  pub counted : e ≢ fault.Write → failed new ≡ failed old

-- one or the other
abbrev pub Tells : {W : Type 0} → (W → Option (List ℕ)) → (W → ℕ) → W → W → List ℕ →
    Result (Unit {0}) TellError → Type 0
Tells contents failed old new text result =
    MatchResult result
    (λ _. TextWritten contents failed old new text)
    (Stopped contents failed old new text)

-- ---- a text of a replica: what it is, is said for each holding of a job that the replica has

-- a text of a replica v was appended
pub record AppendsOf (v : State) (text_of : Job → Holding → List ℕ)
    (old new : Option (List ℕ)) : Type 0 where
  pub text : List ℕ
  pub appended : Appends old new text
  pub told : (j : Job) (h : Holding) → HasHolding j h v → text ≡ text_of j h

-- it was appended, and no call of the writer failed
pub record WritesOf {W : Type 0} (contents : W → Option (List ℕ)) (failed : W → ℕ) (v : State)
    (text_of : Job → Holding → List ℕ) (old new : W) : Type 0 where
  pub whole : AppendsOf v text_of (contents old) (contents new)
  pub counted : failed new ≡ failed old

-- a beginning of it was appended; a call failed if the fault is of a write, and only then
pub record StopsOf {W : Type 0} (contents : W → Option (List ℕ)) (failed : W → ℕ) (v : State)
    (text_of : Job → Holding → List ℕ) (old new : W) (e : TellError) : Type 0 where
  pub begun : (j : Job) (h : Holding) → HasHolding j h v →
      BeginsText (contents old) (contents new) (text_of j h)
  pub failed_one : e ≡ fault.Write → RisesByOne (failed old) (failed new)
  pub counted : e ≢ fault.Write → failed new ≡ failed old

-- one or the other
abbrev pub TellsOf : {W : Type 0} → (W → Option (List ℕ)) → (W → ℕ) → State →
    (Job → Holding → List ℕ) → W → W → Result (Unit {0}) TellError → Type 0
TellsOf contents failed v text_of old new result =
    MatchResult result
    (λ _. WritesOf contents failed v text_of old new)
    (StopsOf contents failed v text_of old new)

-- ---- what an event came to

-- a node was looked at
abbrev pub is_shown : Result Answer WorldError → Bool
is_shown (Ok answer.Shown) = true
is_shown (Ok (answer.Sent m name changed rows)) = false
is_shown (Ok (answer.Took t)) = false
is_shown (Ok (answer.NotTaken e)) = false
is_shown (Ok (answer.Closed t)) = false
is_shown (Ok (answer.NotClosed e)) = false
is_shown (Ok (answer.Kept t)) = false
is_shown (Ok (answer.Restarted t)) = false
is_shown (Ok (answer.Copied c t)) = false
is_shown (Ok (answer.Merged t)) = false
is_shown (Ok (answer.NotMerged e)) = false
is_shown (Err e) = false
