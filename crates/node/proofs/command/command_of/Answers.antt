use Rattle.std.proofs.Common.{◌∙◌}
use Rattle.node.proofs.CommandLemmas.{command_lone, command_many, command_sized}
use Rattle.node.proofs.command.command_of.Goals as goal

pub returns-in_default : goal.returns-in_default
returns-in_default c = c.lone_command.ensures ∙ command_lone c.args.line.now c.in_default.ensures

pub returns-in-None : goal.returns-in-None
returns-in-None c = c.sized_command.ensures ∙ command_sized c.args.line.now c.in-Some.verb.now c.in-Some.word.now c.in-Some.ensures c.in-None.ensures

pub returns-in-Some-cut : goal.returns-in-Some-cut
returns-in-Some-cut c = command_many c.args.line.now c.in-Some.verb.now c.in-Some.word.now c.in-Some-cut.field-0.0.now c.in-Some-cut.field-0.1.now c.in-Some.ensures c.in-Some-cut.ensures
