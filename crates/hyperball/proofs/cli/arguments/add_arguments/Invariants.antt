use Rattle.std.proofs.Common.{take}
use Rattle.clap.specs.Words.{App}
use Rattle.hyperball.specs.CommandLine.{IsApp, with_arguments}
use Rattle.hyperball.proofs.cli.arguments.add_arguments.Given as goal

abbrev pub invariant-loop-argument : goal.invariant-loop-argument
invariant-loop-argument l = (app : App) → IsApp app l.initial.command → IsApp (with_arguments (take l.argument-index l.arguments) app) l.command
