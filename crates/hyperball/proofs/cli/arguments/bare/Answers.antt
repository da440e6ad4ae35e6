use Rattle.std.proofs.Common.{rules}
use Rattle.hyperball.proofs.cli.arguments.bare.Goals as goal

pub returns : goal.returns
returns c = record { form = search rules; local = search rules }
