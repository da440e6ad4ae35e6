-- What a run reports of an input, and what a fault of it says of the options and of the input.
use Rattle.std.specs.Prelude.{◌≡◌, ◌≢◌, ◌<◌, ◌≤◌, ℕ, Bool, true, false, List, length, Option, IfSome, Ok, Err}
use Rattle.ball_model.specs.Input.{IsPlain}
use Rattle.ball_model.specs.RunText.{AppendsReport, ArePlain, Settings}
use Rattle.ball_model.specs.Streams.{Rises, RisesByOne}
use Rattle.job.specs.Job.{settings_of}
use Rattle.edgelist.specs.Reading.{CountsOne}
use Rattle.edgelist.specs.declared.limits.EdgeError.TheVariants as edge_fault
use Rattle.hyperball.specs.Streams.{KeptOrFailed, Reads, Writes}
use Rattle.hyperball.specs.Whole.{IsUnread, Parts, ReadsWhole, parts_in}
use Rattle.hyperball.specs.declared.fault.Fault.{Fault}
use Rattle.hyperball.specs.declared.fault.Fault.TheVariants as fault
use Rattle.hyperball.specs.declared.whole.Lack.TheVariants as lack
use Rattle.job.specs.declared.limits.TheConstants.{MOST_BYTES}
use Rattle.workers.specs.Options.{job_asked}
use Rattle.workers.specs.Run.{BeginsReport, IsFaultIn, IsRunRefusal, RefusesEdges}
use Rattle.workers.specs.declared.runs.RunError.{RunError}
use Rattle.workers.specs.declared.runs.RunError.TheVariants as run_fault
use Rattle.workers.specs.declared.options.RunOptions.{RunOptions}

-- the report of what a run by these settings finds in the input is appended, if that is plain; with a list the input is
-- not too long
pub record Reports (s : Settings) (counted : Bool) (input : List ℕ) (old new : Option (List ℕ)) :
    Type 0 where
  pub parts : Parts
  pub found : parts_in counted false input ≡ Ok parts
  pub appended : ArePlain parts.edges parts.list →
      AppendsReport s parts.edges parts.list old new
  pub within : counted ≡ true → length input ≤ MOST_BYTES

-- a run by these options is done: the report was appended, and no call failed (of the reader: without a list, while
-- failures can be counted)
pub record DoesJob (o : RunOptions) (counted : Bool) (r : Reads) (w : Writes) : Type 0 where
  pub reported : IfSome r.bytes.old (λ input.
      Reports (settings_of (job_asked o)) counted input w.contents.old w.contents.new)
  pub unfailed : CountsOne r.failed.old r.failed.new → ⊥
  pub listed : counted ≡ true → Rises r.failed.old r.failed.new → ⊥
  pub written : w.failed.new ≡ w.failed.old

-- this error is answered of the edge list and the list of counted vertices in the input, if these are plain: it comes
-- only if all checks before it passed; and if the edge list alone is, it says of that what it has to
pub record RefusesInput (s : Settings) (counted : Bool) (input : List ℕ) (e : RunError) :
    Type 0 where
  pub parts : Parts
  pub found : parts_in counted false input ≡ Ok parts
  pub of_edges : IsPlain parts.edges → RefusesEdges s parts.edges e
  pub refused : ArePlain parts.edges parts.list → IsRunRefusal s parts.edges parts.list e

-- a beginning of that report is appended, and not all of it
pub record BeginsToReport (s : Settings) (counted : Bool) (input : List ℕ)
    (old new : Option (List ℕ)) : Type 0 where
  pub parts : Parts
  pub found : parts_in counted false input ≡ Ok parts
  pub begun : ArePlain parts.edges parts.list →
      BeginsReport s parts.edges parts.list old new

-- what a fault says of the options, and of the input that a reader tells: only a run with a list reads it whole, and all
-- that it may lack is the list
abbrev pub IsFault : RunOptions → Bool → Option (List ℕ) → Fault → Type 0
IsFault o counted told (fault.Input e) = counted ≡ true
IsFault o counted told (fault.Lacks missing) =
    (counted ≡ true) × ((missing ≡ lack.List)
    × IfSome told (λ input. parts_in counted false input ≡ Err missing))
IsFault o counted told (fault.Run e) =
    IsFaultIn o e × IfSome told (λ input. RefusesInput (settings_of (job_asked o)) counted input e)
IsFault o counted told f = ⊥

-- what a run with a list does with its reader, and which faults it tells of that: it reads the input whole, and one that is
-- too long is not read whole
pub record RefusesListed (r : Reads) (e : Fault) : Type 0 where
  pub whole : ReadsWhole r (λ x. e ≡ fault.Input x)
  pub long : IfSome r.bytes.old (λ input. MOST_BYTES < length input → IsUnread e)
  pub edges : e ≢ fault.Run (run_fault.Edges edge_fault.Read)

-- and a run without one: it reads an edge list
pub record RefusesUnlisted (r : Reads) (e : Fault) : Type 0 where
  pub read : e ≡ fault.Run (run_fault.Edges edge_fault.Read) → Rises r.failed.old r.failed.new
  pub failed : CountsOne r.failed.old r.failed.new →
      e ≡ fault.Run (run_fault.Edges edge_fault.Read)

-- a run by these options, with a list of counted vertices or without, ends with this fault
pub record FailsJob (o : RunOptions) (counted : Bool) (r : Reads) (w : Writes) (e : Fault) :
    Type 0 where
  pub due : IsFault o counted r.bytes.old e
  pub listed : counted ≡ true → RefusesListed r e
  pub unlisted : counted ≡ false → RefusesUnlisted r e
  pub kept : KeptOrFailed w
  pub write : e ≡ fault.Run run_fault.Write → RisesByOne w.failed.old w.failed.new
  pub written : e ≢ fault.Run run_fault.Write → w.failed.new ≡ w.failed.old
  pub begun : e ≡ fault.Run run_fault.Write → IfSome r.bytes.old (λ input.
      BeginsToReport (settings_of (job_asked o)) counted input w.contents.old w.contents.new)
