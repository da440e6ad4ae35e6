use Rattle.std.proofs.Common.{◌∙◌}
use Rattle.world.proofs.ScriptLemmas.{node-uncut, node-two, node-many}
use Rattle.world.proofs.script.node.Goals as goal

pub returns-in_err-first : goal.returns-in_err-first
returns-in_err-first c = c.from_residual.ensures ∙ node-uncut c.args.word.now c.in_err-first.ensures

pub returns-in-None : goal.returns-in-None
returns-in-None c = c.node_of.ensures ∙ node-two c.args.word.now c.in_ok-first.first.now c.in_ok-first.second.now c.in_ok-first.ensures c.in-None.ensures

pub returns-in-Some : goal.returns-in-Some
returns-in-Some c = node-many c.args.word.now c.in_ok-first.first.now c.in_ok-first.second.now c.in-Some.field-0.0.now c.in-Some.field-0.1.now c.in_ok-first.ensures c.in-Some.ensures
