use Rattle.std.proofs.Common.{sym, append-nil}
use Rattle.world.proofs.AnswerLemmas.{register-put}
use Rattle.ball_model.specs.WorldText.{registers_word}
use Rattle.world.proofs.answer.put_registers.Goals as goal

pub loop-register-init : goal.loop-register-init
unfolding registers_word
loop-register-init c = sym (append-nil c.args.line.now.items)

pub loop-register-preserved : goal.loop-register-preserved
loop-register-preserved c =
    register-put c.args.row.now c.loop-register.register-index c.args.line.now.items c.loop-register.line.items c.extend_from_slice.new.self.items c.hex_digit.result c.hex_digit-in-loop-register.result c.loop-register-test.true c.loop-register.invariant c.in_ok-extend_from_slice.ensures.items c.hex_digit.ensures c.hex_digit-in-loop-register.ensures
