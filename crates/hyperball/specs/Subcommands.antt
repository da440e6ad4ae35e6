-- What the words of a command line ask for.
use Rattle.std.specs.Prelude.{◌≡◌, ⊤, ◌⊎◌, Bool, true, List, [], Option, IfSome, IfOk, Ok, Result}
use Rattle.clap.specs.Words.{Row, Text, subcommand_of}
use Rattle.hyperball.specs.CommandLine.{Parsers, TakeNames, hyperball_app}
use Rattle.hyperball.specs.Nodes.{AsksGather, AsksNode, IsGatherOf, IsNodeOf, NamesGather, NamesNode}
use Rattle.hyperball.specs.Progress.{Foretells}
use Rattle.hyperball.specs.Replaying.{AsksReplay, IsReplayOf, NamesReplay}
use Rattle.hyperball.specs.Words.{AreListed, AsksProgress, GivesProgress, HasFaults, IsRunOf}
use Rattle.hyperball.specs.declared.cli.Subcommand.{Subcommand}
use Rattle.hyperball.specs.declared.cli.Subcommand.TheVariants as subcommand
use Rattle.hyperball.specs.declared.cli.WordsError.{WordsError}
use Rattle.hyperball.specs.declared.cli.gather.GatherArgs.{GatherArgs}
use Rattle.hyperball.specs.declared.cli.one_node.NodeArgs.{NodeArgs}
use Rattle.hyperball.specs.declared.cli.replay.ReplayArgs.{ReplayArgs}
use Rattle.hyperball.specs.declared.cli.run.RunArgs.{RunArgs}
use Rattle.hyperball.specs.declared.lines.ProgressLine.{ProgressLine}

-- what `clap` found is this subcommand, with these options or their defaults, whatever its lists of orders are
abbrev pub IsSubcommandOf : Option (Text × List Row) → Subcommand → Type 0
IsSubcommandOf sub (subcommand.Run w) = IsRunOf sub w
IsSubcommandOf sub (subcommand.Replay w) = IsReplayOf sub w
IsSubcommandOf sub (subcommand.Node w) = IsNodeOf sub w
IsSubcommandOf sub (subcommand.Gather w) = IsGatherOf sub w

-- the words are read as this subcommand, whatever its lists of orders are
pub record IsSubcommand (words : List Text) (x : Subcommand) : Type 0 where
  pub accepted : HasFaults words []
  pub command : (p : Parsers) → TakeNames p →
      IsSubcommandOf (subcommand_of (hyperball_app p) words) x

-- so it is of each command
abbrev pub IsRun : List Text → RunArgs → Type 0
IsRun words w = IsSubcommand words (subcommand.Run w)

abbrev pub IsReplay : List Text → ReplayArgs → Type 0
IsReplay words w = IsSubcommand words (subcommand.Replay w)

abbrev pub IsNode : List Text → NodeArgs → Type 0
IsNode words w = IsSubcommand words (subcommand.Node w)

abbrev pub IsGather : List Text → GatherArgs → Type 0
IsGather words w = IsSubcommand words (subcommand.Gather w)

-- the words of a run, with the lists of orders of another
abbrev pub with_lists_of : RunArgs → RunArgs → RunArgs
with_lists_of w v =
    record v { options = record v.options { lose = w.options.lose; restart = w.options.restart } }

-- a subcommand is this one, whatever its lists of orders are
abbrev pub Says : Subcommand → Subcommand → Type 0
Says (subcommand.Run w) (subcommand.Run v) = with_lists_of w v ≡ w
Says (subcommand.Run w) (subcommand.Replay v) = ⊥
Says (subcommand.Run w) (subcommand.Node v) = ⊥
Says (subcommand.Run w) (subcommand.Gather v) = ⊥
Says (subcommand.Replay w) x = x ≡ subcommand.Replay w
Says (subcommand.Node w) x = x ≡ subcommand.Node w
Says (subcommand.Gather w) x = x ≡ subcommand.Gather w

-- a subcommand that is asked for is the answer; that of a run whatever its lists of orders are, unless these are refused
abbrev pub AnswersSubcommand : Subcommand → Result Subcommand WordsError → Type 0
AnswersSubcommand (subcommand.Run w) result = IfOk result (Says (subcommand.Run w))
AnswersSubcommand (subcommand.Replay w) result = result ≡ Ok (subcommand.Replay w)
AnswersSubcommand (subcommand.Node w) result = result ≡ Ok (subcommand.Node w)
AnswersSubcommand (subcommand.Gather w) result = result ≡ Ok (subcommand.Gather w)

-- what `clap` found has the name of this subcommand; of a run nothing is said
abbrev pub NamesSubcommand : Option (Text × List Row) → Subcommand → Type 0
NamesSubcommand sub (subcommand.Run w) = ⊤
NamesSubcommand sub (subcommand.Replay w) = NamesReplay sub
NamesSubcommand sub (subcommand.Node w) = NamesNode sub
NamesSubcommand sub (subcommand.Gather w) = NamesGather sub

-- the words name this subcommand; of a run nothing is said
abbrev pub AsksSubcommand : List Text → Subcommand → Type 0
AsksSubcommand words (subcommand.Run w) = ⊤
AsksSubcommand words (subcommand.Replay w) = AsksReplay words
AsksSubcommand words (subcommand.Node w) = AsksNode words
AsksSubcommand words (subcommand.Gather w) = AsksGather words

-- the words name another subcommand than this one: a replay, a node or a gathering
abbrev pub AsksAnother : List Text → Subcommand → Type 0
AsksAnother words (subcommand.Run w) = AsksReplay words ⊎ (AsksNode words ⊎ AsksGather words)
AsksAnother words (subcommand.Replay w) = AsksNode words ⊎ AsksGather words
AsksAnother words (subcommand.Node w) = AsksReplay words ⊎ AsksGather words
AsksAnother words (subcommand.Gather w) = AsksReplay words ⊎ AsksNode words

-- a run has the orders of the options that `clap` found
abbrev pub SaysListed : Option (Text × List Row) → Subcommand → Type 0
SaysListed sub (subcommand.Run w) =
    IfSome sub (λ s. AreListed s.1 w.options.lose.items w.options.restart.items)
SaysListed sub (subcommand.Replay w) = ⊤
SaysListed sub (subcommand.Node w) = ⊤
SaysListed sub (subcommand.Gather w) = ⊤

-- a run has the orders of the words, as some parsers read them
pub record SaysOrders (words : List Text) (x : Subcommand) : Type 0 where
  pub parsers : Parsers
  pub take : TakeNames parsers
  pub listed : SaysListed (subcommand_of (hyperball_app parsers) words) x

-- whether progress is to be reported
abbrev pub tells_progress : Subcommand → Bool
tells_progress (subcommand.Run w) = w.progress
tells_progress (subcommand.Replay w) = w.progress
tells_progress (subcommand.Node w) = w.progress
tells_progress (subcommand.Gather w) = w.progress

-- the line says a fault that every plan of the subcommand has, whatever the graph
abbrev pub ForetellsOf : Subcommand → ProgressLine → Type 0
ForetellsOf (subcommand.Run w) said = Foretells w.options.log2m w.options.parts w.options.limit said
ForetellsOf (subcommand.Replay w) said = ⊥
ForetellsOf (subcommand.Node w) said =
    Foretells w.job.options.log2m w.job.options.parts w.job.options.limit said
ForetellsOf (subcommand.Gather w) said =
    Foretells w.job.options.log2m w.job.options.parts w.job.options.limit said

-- a subcommand as `clap` found it: its name, its lists of orders, and whether progress is to be reported
pub record IsOfMatches (sub : Option (Text × List Row)) (x : Subcommand) : Type 0 where
  pub names : NamesSubcommand sub x
  pub listed : SaysListed sub x
  pub progress : (b : Bool) → GivesProgress sub b → tells_progress x ≡ b

-- a subcommand as the words say it: its name, its lists of orders, and whether progress is to be reported
pub record IsOfWords (words : List Text) (x : Subcommand) : Type 0 where
  pub asks : AsksSubcommand words x
  pub orders : SaysOrders words x
  pub progress : (b : Bool) → AsksProgress words b → tells_progress x ≡ b

-- the input is to be read whole
abbrev pub ReadsAll : Subcommand → Type 0
ReadsAll (subcommand.Run w) = w.counted ≡ true
ReadsAll (subcommand.Replay w) = ⊤
ReadsAll (subcommand.Node w) = ⊥
ReadsAll (subcommand.Gather w) = ⊥
