use Rattle.std.proofs.Common.{◌≡◌, ◌∙◌, Bool, ap, true}
use Rattle.clap.specs.Simple.{app_of_fields}
use Rattle.clap.specs.Words.{App, app_of}
use Rattle.clap.specs.declared.builder.command.Command.{Command}
use Rattle.clap.specs.declared.builder.command.Command.TheOpen.{Command-F}
use Rattle.hyperball.proofs.cli.bare_command.Goals as goal

-- with a version, and with a subcommand wanted
abbrev versioned : App → App
versioned a = record a { top = record a.top { has_version = true } }

abbrev wanting : App → App
wanting a = record a { top = record a.top { subcommand_required = true } }

-- whether it has an argument for all subcommands
abbrev globals : Command-F Command → Bool
globals f = f.has_globals

pub returns : goal.returns
returns c =
    let version : app_of c.version.result ≡ versioned (app_of c.new.result) = ap app_of_fields c.version.ensures in
    let about : app_of c.about.result ≡ app_of c.version.result = ap app_of_fields c.about.ensures in
    let required : app_of c.subcommand_required.result ≡ wanting (app_of c.about.result) = ap app_of_fields c.subcommand_required.ensures in
    record {
      form = required ∙ ap wanting (about ∙ version ∙ ap versioned c.new.ensures.app);
      local = ap globals c.subcommand_required.ensures ∙ ap globals c.about.ensures ∙ ap globals c.version.ensures ∙ c.new.ensures.local;
    }
