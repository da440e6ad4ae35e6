-- What the words of a replay say, and what they are served.
use Rattle.std.specs.Prelude.{◌≡◌, ◌≢◌, ⊤, ◌⊎◌, ◌<◌, ◌≤◌, ℕ, true, List, length, Option, Some, IfSome, option_map, Ok, Err, codes}
use Rattle.std.specs.Io.KnownBytes.{Keeps}
use Rattle.clap.specs.Words.{Row, Text, subcommand_of}
use Rattle.ball_model.specs.RunText.{ArePlain}
use Rattle.ball_model.specs.Streams.{Rises, RisesByOne}
use Rattle.ball_model.specs.WorldText.{AppendsReplay, HasCommands}
use Rattle.hyperball.specs.CommandLine.{Parsers, TakeNames, hyperball_app}
use Rattle.hyperball.specs.Streams.{Reads, Writes}
use Rattle.hyperball.specs.Whole.{IsUnread, ReadsWhole, parts_in}
use Rattle.hyperball.specs.Words.{AreJobOptionsOf, IsFlag, IsNumberOr}
use Rattle.hyperball.specs.declared.cli.replay.ReplayArgs.{ReplayArgs}
use Rattle.hyperball.specs.declared.fault.Fault.{Fault}
use Rattle.hyperball.specs.declared.fault.Fault.TheVariants as fault
use Rattle.hyperball.specs.declared.whole.Lack.{Lack}
use Rattle.job.specs.declared.input.JobInput.{JobInput}
use Rattle.job.specs.declared.limits.TheConstants.{MOST_BYTES}
use Rattle.world.specs.Replay.{AppendsSomeReplay, BeginsReplay, BeginsSomeReplay, FailsOfReplay, replay_job, replay_of}
use Rattle.world.specs.declared.replay.ReplayError.{ReplayError}
use Rattle.world.specs.declared.replay.ReplayError.TheVariants as unanswered

-- what a replay asks of its job
abbrev pub replay_input : ReplayArgs → JobInput
replay_input w = record { options = replay_job w.options; counted = w.counted }

-- the options have these values
pub record AreReplayOptionsOf (rows : List Row) (w : ReplayArgs) : Type 0 where
  pub job : AreJobOptionsOf rows (replay_input w)
  pub replicas : IsNumberOr 1 8 rows (codes "replicas") w.options.replicas
  pub progress : IsFlag rows (codes "progress") w.progress

-- the subcommand is replay, with these options or their defaults
abbrev pub IsReplayOf : Option (Text × List Row) → ReplayArgs → Type 0
IsReplayOf sub w =
    (rows : List Row) × (sub ≡ Some (codes "replay", rows)) × AreReplayOptionsOf rows w

-- the subcommand is replay
abbrev pub NamesReplay : Option (Text × List Row) → Type 0
NamesReplay sub = option_map (λ s. s.0) sub ≡ Some (codes "replay")

-- the words ask for a replay, as some parsers read them
pub record AsksReplay (words : List Text) : Type 0 where
  pub parsers : Parsers
  pub take : TakeNames parsers
  pub named : NamesReplay (subcommand_of (hyperball_app parsers) words)

-- the input has these parts
abbrev pub HasParts : ReplayArgs → List ℕ → List ℕ → Option (List ℕ) → List ℕ → Type 0
HasParts v input edges list script = parts_in v.counted true input
    ≡ Ok (record { edges = edges; list = list; script = Some script })

-- the options fit, the input is not too long, a script is in it, and its answers are appended: over some network, and
-- over that of the input if it is plain
pub record Answers (v : ReplayArgs) (input : List ℕ) (old new : Option (List ℕ)) : Type 0 where
  pub edges : List ℕ
  pub list : Option (List ℕ)
  pub script : List ℕ
  pub found : HasParts v input edges list script
  pub within : length input ≤ MOST_BYTES
  pub commands : HasCommands (replay_of v.options) script
  pub some : AppendsSomeReplay (replay_of v.options) script old new
  pub appended : ArePlain edges list →
      AppendsReplay (replay_of v.options) edges list script old new

-- a replay is done: its answers were appended, and no call failed
pub record DoesReplay (v : ReplayArgs) (r : Reads) (w : Writes) : Type 0 where
  pub answered : IfSome r.bytes.old (λ input. Answers v input w.contents.old w.contents.new)
  pub unfailed : Rises r.failed.old r.failed.new → ⊥
  pub written : w.failed.new ≡ w.failed.old

-- nothing or a beginning of these answers is appended
pub record BeginsAnswers (v : ReplayArgs) (input : List ℕ) (old new : Option (List ℕ)) :
    Type 0 where
  pub edges : List ℕ
  pub list : Option (List ℕ)
  pub script : List ℕ
  pub found : HasParts v input edges list script
  pub some : Keeps old new ⊎ BeginsSomeReplay (replay_of v.options) script old new
  pub begun : ArePlain edges list →
      Keeps old new ⊎ BeginsReplay (replay_of v.options) edges list script old new

-- the replay over the parts of the input fails so
pub record FailsOver (v : ReplayArgs) (input : List ℕ) (w : Writes) (e : ReplayError) :
    Type 0 where
  pub edges : List ℕ
  pub list : Option (List ℕ)
  pub script : List ℕ
  pub found : HasParts v input edges list script
  pub fails : FailsOfReplay (replay_of v.options) edges list script
      w.contents.old w.contents.new w.failed.old w.failed.new e

-- what a fault says of an input: that it lacks a part, or how the replay fails
abbrev pub IsReplayFault : ReplayArgs → List ℕ → Writes → Fault → Type 0
IsReplayFault v input w (fault.Input e) = ⊤
IsReplayFault v input w (fault.Lacks missing) = parts_in v.counted true input ≡ Err missing
IsReplayFault v input w (fault.Replay e) = FailsOver v input w e
IsReplayFault v input w f = ⊥

-- what a fault leaves, whatever the input is: all but two leave the writer as it was, and one that says that a write
-- failed comes only if one did
abbrev pub Leaves : Writes → Fault → Type 0
Leaves w (fault.Input e) = Keeps w.contents.old w.contents.new
Leaves w (fault.Lacks missing) = Keeps w.contents.old w.contents.new
Leaves w (fault.Replay e) =
    (e ≢ unanswered.Memory → e ≢ unanswered.Write → Keeps w.contents.old w.contents.new)
    × (e ≡ unanswered.Write → RisesByOne w.failed.old w.failed.new)
Leaves w f = ⊥

-- an input that is too long is not read whole
abbrev pub RefusesLong : Option (List ℕ) → Fault → Type 0
RefusesLong told f = IfSome told (λ input. MOST_BYTES < length input → IsUnread f)

-- of an input that lacks a part this is said, if it is read whole
abbrev pub RefusesLack : ReplayArgs → Option (List ℕ) → Fault → Type 0
RefusesLack v told f = IfSome told (λ input. (missing : Lack) →
    parts_in v.counted true input ≡ Err missing → IsUnread f ⊎ (f ≡ fault.Lacks missing))

-- the writer has what it had, or a beginning of the answers too
abbrev pub BeginsToServe : ReplayArgs → Reads → Writes → Type 0
BeginsToServe v r w = Keeps w.contents.old w.contents.new
    ⊎ IfSome r.bytes.old (λ input. BeginsAnswers v input w.contents.old w.contents.new)

-- a replay ends with this fault
pub record FailsReplay (v : ReplayArgs) (r : Reads) (w : Writes) (f : Fault) : Type 0 where
  pub due : IfSome r.bytes.old (λ input. IsReplayFault v input w f)
  pub left : Leaves w f
  pub begun : BeginsToServe v r w
  pub whole : ReadsWhole r (λ e. f ≡ fault.Input e)
  pub long : RefusesLong r.bytes.old f
  pub lacks : RefusesLack v r.bytes.old f

-- the words name a replay, and under some options it has a beginning of the answers
pub record BeginsSome (words : List Text) (r : Reads) (w : Writes) : Type 0 where
  pub asks : AsksReplay words
  pub args : ReplayArgs
  pub begun : IfSome r.bytes.old (λ input.
      BeginsAnswers args input w.contents.old w.contents.new)
