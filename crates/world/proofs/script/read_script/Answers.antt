use Rattle.std.proofs.Common.{◌∙◌, List, subst, sym}
use Rattle.ball_model.specs.declared.world.Event.{Event}
use Rattle.world.proofs.ScriptLemmas.{ReadSoFar, read-line, read-none, end-of}
use Rattle.world.proofs.script.read_script.Goals as goal

pub loop-rest-init : goal.loop-rest-init
loop-rest-init c = λ fine. subst (λ (es : List Event). ReadSoFar c.args.script.now c.args.script.now es) (sym c.new-events.ensures.items) (read-none c.args.script.now)

pub loop-rest-preserved : goal.loop-rest-preserved
loop-rest-preserved c = λ fine.
    read-line c.args.script.now c.loop-rest.rest.now c.next_line.result.0.now c.next_line.result.1.now c.loop-rest.events.items c.add_line.new.events.items fine (c.loop-rest.invariant fine) c.next_line.ensures.value c.in_ok-add_line.ensures

pub returns : goal.returns
returns c = λ fine. end-of c.args.script.now c.loop-rest.rest.now c.loop-rest.events.items (c.loop-rest.invariant fine) (sym c.is_empty.ensures ∙ c.loop-rest-test.false)
