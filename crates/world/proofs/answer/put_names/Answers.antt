use Rattle.std.proofs.Common.{sym, append-nil, ◌≡◌, arith}
use Rattle.world.proofs.AnswerLemmas.{names-put, names-last}
use Rattle.world.specs.Answer.{spaced}
use Rattle.world.proofs.answer.put_names.Goals as goal

pub loop-ahead-init : goal.loop-ahead-init
unfolding spaced
loop-ahead-init c = sym (append-nil c.args.line.now.items)

pub loop-ahead-preserved : goal.loop-ahead-preserved
loop-ahead-preserved c = names-put c.args.replica.now c.superstep-superstep.result c.loop-ahead.ahead c.args.line.now.items c.loop-ahead.line.items c.put_names_at.new.line.items c.loop-ahead.invariant c.in_ok-put_names_at.ensures

pub returns : goal.returns
returns c =
    let four : c.loop-ahead.ahead ≡ 4 = omega (arith, c.loop-ahead.auto.ahead-end, c.loop-ahead-test.false) in
    names-last c.args.replica.now c.superstep-superstep.result c.loop-ahead.ahead c.args.line.now.items c.loop-ahead.line.items c.loop-ahead.invariant c.superstep-superstep.ensures.value four
