use Rattle.std.proofs.Common.{arith, ◌∙◌}
use Rattle.ball_model.specs.WorldText.{value_from}
use Rattle.world.proofs.ScriptLemmas.{value-step}
use Rattle.world.proofs.script.value_to.Goals as goal

pub loop-byte-init : goal.loop-byte-init
unfolding value_from
loop-byte-init c = omega arith

pub loop-byte-preserved : goal.loop-byte-preserved
loop-byte-preserved c = value-step c.args.bound c.args.word.now c.loop-byte.byte-index c.loop-byte.value c.from.result c.min-value.result c.loop-byte-test.true c.loop-byte.invariant (c.from.ensures ∙ c.saturating_sub.ensures) c.min-value.ensures
