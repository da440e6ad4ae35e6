use Rattle.std.proofs.Common.{codes}
use Rattle.clap.specs.Words.{new_app}
use Rattle.hyperball.specs.CommandLine.{Parsers, run_app, with_job}
use Rattle.hyperball.proofs.cli.run.run_command.Goals as goal

pub returns : goal.returns
unfolding run_app
returns c =
    let p : Parsers = record { estimates = c.args.estimates; delimiters = c.args.delimiters } in
    rw (c.job_arguments-job.ensures (new_app (codes "run")), c.run_arguments.ensures (with_job p (new_app (codes "run")))) at c.subcommand_of.ensures
