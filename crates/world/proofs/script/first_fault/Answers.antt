use Rattle.std.proofs.Common.{◌∙◌, sym}
use Rattle.world.proofs.ScriptLemmas.{pass-line, find-fault, no-fault}
use Rattle.world.proofs.script.first_fault.Goals as goal

pub loop-rest-preserved : goal.loop-rest-preserved
loop-rest-preserved c =
    pass-line c.args.script.now c.loop-rest.rest.now c.next_line.result.0.now c.next_line.result.1.now c.loop-rest.number c.loop-rest.invariant c.next_line.ensures.value c.next_line.ensures.shorter (sym c.if-not-is_command_or_skipped.ensures)

pub returns-then-not-is_command_or_skipped : goal.returns-then-not-is_command_or_skipped
returns-then-not-is_command_or_skipped c =
    sym (find-fault c.args.script.now c.loop-rest.rest.now c.next_line.result.0.now c.next_line.result.1.now c.loop-rest.number c.loop-rest.invariant c.next_line.ensures.value (sym c.if-not-is_command_or_skipped.ensures))

pub returns : goal.returns
returns c = sym (no-fault c.args.script.now c.loop-rest.rest.now c.loop-rest.number c.loop-rest.invariant (sym c.is_empty.ensures ∙ c.loop-rest-test.false))
