use Rattle.std.proofs.Common.{codes}
use Rattle.clap.specs.Words.{new_app}
use Rattle.hyperball.specs.CommandLine.{gather_app, with_arguments}
use Rattle.hyperball.proofs.cli.gather.gather_command.Goals as goal

pub returns : goal.returns
unfolding gather_app with_arguments
returns c = rw (c.job_arguments-job.ensures (new_app (codes "gather")), c.threads.ensures, c.large.ensures, c.progress.ensures) at c.subcommand_of.ensures
