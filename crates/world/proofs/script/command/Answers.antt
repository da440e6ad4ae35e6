use Rattle.std.proofs.Common.{◌∙◌}
use Rattle.world.proofs.ScriptLemmas.{command-uncut, command-one, command-two, command-many}
use Rattle.world.proofs.script.command.Goals as goal

pub returns-in_err-verb : goal.returns-in_err-verb
returns-in_err-verb c = c.from_residual.ensures ∙ command-uncut c.args.line.now c.in_err-verb.ensures

pub returns-in_default : goal.returns-in_default
returns-in_default c = c.one_command.ensures ∙ command-one c.args.line.now c.in_ok-verb.verb.now c.in_ok-verb.words.now c.in_ok-verb.ensures c.in_default.ensures

pub returns-in-None : goal.returns-in-None
returns-in-None c = c.two_command.ensures ∙ command-two c.args.line.now c.in_ok-verb.verb.now c.in_ok-verb.words.now c.in-Some.first.now c.in-Some.second.now c.in_ok-verb.ensures c.in-Some.ensures c.in-None.ensures

pub returns-in-Some-cut : goal.returns-in-Some-cut
returns-in-Some-cut c = command-many c.args.line.now c.in_ok-verb.verb.now c.in_ok-verb.words.now c.in-Some.first.now c.in-Some.second.now c.in-Some-cut.field-0.0.now c.in-Some-cut.field-0.1.now c.in_ok-verb.ensures c.in-Some.ensures c.in-Some-cut.ensures
