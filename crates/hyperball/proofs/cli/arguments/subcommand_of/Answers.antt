use Rattle.clap.specs.Words.{new_app}
use Rattle.hyperball.proofs.cli.arguments.subcommand_of.Goals as goal

pub returns : goal.returns
returns c =
    let first = c.in_ok-command.ensures (new_app c.args.texts.now.name.now) c.bare.ensures in
    c.add_arguments-2.ensures _ first
