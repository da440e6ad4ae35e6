-- What the words of a node and of a gathering say.
use Rattle.std.specs.Prelude.{◌≡◌, List, Option, Some, option_map, codes}
use Rattle.clap.specs.Words.{Row, Text, subcommand_of}
use Rattle.hyperball.specs.CommandLine.{Parsers, TakeNames, hyperball_app}
use Rattle.hyperball.specs.Words.{AreJobOptionsOf, IsFlag, IsNumberOr, usual_options}
use Rattle.hyperball.specs.declared.cli.gather.GatherArgs.{GatherArgs}
use Rattle.hyperball.specs.declared.cli.one_node.NodeArgs.{NodeArgs}

-- the options of a node have these values: it has no number of threads
pub record AreNodeOptionsOf (rows : List Row) (w : NodeArgs) : Type 0 where
  pub job : AreJobOptionsOf rows w.job
  pub large : IsFlag rows (codes "large") w.job.options.large
  pub threads : w.job.options.threads ≡ 0
  pub part : IsNumberOr 0 16 rows (codes "part") w.part
  pub progress : IsFlag rows (codes "progress") w.progress

-- the options of a gathering have these values
pub record AreGatherOptionsOf (rows : List Row) (w : GatherArgs) : Type 0 where
  pub job : AreJobOptionsOf rows w.job
  pub large : IsFlag rows (codes "large") w.job.options.large
  pub threads : IsNumberOr usual_options.threads 16 rows (codes "threads") w.job.options.threads
  pub progress : IsFlag rows (codes "progress") w.progress

-- the subcommand is node or gather, with these options or their defaults
abbrev pub IsNodeOf : Option (Text × List Row) → NodeArgs → Type 0
IsNodeOf sub w = (rows : List Row) × (sub ≡ Some (codes "node", rows)) × AreNodeOptionsOf rows w

abbrev pub IsGatherOf : Option (Text × List Row) → GatherArgs → Type 0
IsGatherOf sub w =
    (rows : List Row) × (sub ≡ Some (codes "gather", rows)) × AreGatherOptionsOf rows w

-- the subcommand is node
abbrev pub NamesNode : Option (Text × List Row) → Type 0
NamesNode sub = option_map (λ s. s.0) sub ≡ Some (codes "node")

-- the subcommand is gather
abbrev pub NamesGather : Option (Text × List Row) → Type 0
NamesGather sub = option_map (λ s. s.0) sub ≡ Some (codes "gather")

-- the words ask for a node, as some parsers read them
pub record AsksNode (words : List Text) : Type 0 where
  pub parsers : Parsers
  pub take : TakeNames parsers
  pub named : NamesNode (subcommand_of (hyperball_app parsers) words)

-- the words ask for the report of checkpoints, as some parsers read them
pub record AsksGather (words : List Text) : Type 0 where
  pub parsers : Parsers
  pub take : TakeNames parsers
  pub named : NamesGather (subcommand_of (hyperball_app parsers) words)
