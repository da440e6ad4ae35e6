use Rattle.std.proofs.Common.{codes}
use Rattle.clap.specs.Words.{new_app}
use Rattle.hyperball.specs.CommandLine.{node_app, with_arguments}
use Rattle.hyperball.proofs.cli.one_node.node_command.Goals as goal

pub returns : goal.returns
unfolding node_app with_arguments
returns c = rw (c.job_arguments-job.ensures (new_app (codes "node")), c.option-part.ensures, c.value_parser.ensures, c.large.ensures, c.progress.ensures) at c.subcommand_of.ensures
