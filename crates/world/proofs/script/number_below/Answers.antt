use Rattle.std.proofs.Common.{◌∙◌, sym}
use Rattle.world.proofs.ScriptLemmas.{number-is, number-great, number-other}
use Rattle.world.proofs.script.number_below.Goals.{else-value-bound-via-then-value-bound+else-eq, else-value-bound-via-else-value-bound}
use Rattle.world.proofs.script.number_below.Goals as goal

pub returns-then-eq : goal.returns-then-eq
returns-then-eq c = number-is c.args.bound c.args.word.now c.as_bytes.result.now c.value_to-value.result c.value_to-value.ensures c.if-value-bound.true (sym c.eq.ensures ∙ c.if-eq.true) (c.as_bytes.ensures.value ∙ c.format.ensures.text)

pub returns-else-value-bound : goal.returns-else-value-bound
returns-else-value-bound c =
    elim c.else-value-bound.branch [
      | else-value-bound-via-then-value-bound+else-eq w ↦ number-other c.args.bound c.args.word.now w.as_bytes.result.now c.value_to-value.result c.value_to-value.ensures w.if-value-bound.true (sym w.eq.ensures ∙ w.if-eq.false) (w.as_bytes.ensures.value ∙ w.format.ensures.text)
      | else-value-bound-via-else-value-bound w ↦ number-great c.args.bound c.args.word.now c.value_to-value.result c.value_to-value.ensures w.if-value-bound.false
    ]
