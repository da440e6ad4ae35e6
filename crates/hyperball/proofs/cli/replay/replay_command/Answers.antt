use Rattle.std.proofs.Common.{codes}
use Rattle.clap.specs.Words.{new_app}
use Rattle.hyperball.specs.CommandLine.{replay_app, with_arguments}
use Rattle.hyperball.proofs.cli.replay.replay_command.Goals as goal

pub returns : goal.returns
unfolding replay_app with_arguments
returns c = rw (c.job_arguments-job.ensures (new_app (codes "replay")), c.option-replicas.ensures, c.value_parser.ensures, c.progress.ensures) at c.subcommand_of.ensures
