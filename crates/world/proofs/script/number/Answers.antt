use Rattle.std.proofs.Common.{◌∙◌}
use Rattle.world.proofs.ScriptLemmas.{number-in}
use Rattle.world.proofs.script.number.Goals as goal

pub returns : goal.returns
returns c = c.number_below.ensures ∙ number-in c.args.word.now
