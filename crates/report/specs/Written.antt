-- What writing a text came to.
use Rattle.std.specs.Prelude.{◌≡◌, ◌≢◌, ℕ, List, Option, Result, MatchResult}
use Rattle.ball_model.specs.Streams.{PutsFront, RisesByOne, TextWritten}
use Rattle.report.specs.declared.write.ReportError.{ReportError}
use Rattle.report.specs.declared.write.ReportError.TheVariants as fault

-- a writer of these contents was given a beginning of the text, and not all of it; a call of it failed if the error is
-- of a write, and only then
pub record WrittenInPart {W : Type 0} (contents : W → Option (List ℕ)) (failed : W → ℕ)
    (old new : W) (text : List ℕ) (e : ReportError) : Type 0 where
  pub front : PutsFront (contents old) (contents new) text
  pub failed_one : e ≡ fault.Write → RisesByOne (failed old) (failed new)
  pub counted : e ≢ fault.Write → failed new ≡ failed old

-- the result is Ok if the whole text was written, and the error if only a beginning was
abbrev pub WritesText : {W : Type 0} → (W → Option (List ℕ)) → (W → ℕ) → W → W → List ℕ →
    Result (Unit {0}) ReportError → Type 0
WritesText contents failed old new text result =
    MatchResult result
    (λ _. TextWritten contents failed old new text)
    (WrittenInPart contents failed old new text)
