use Rattle.std.proofs.Common.{sym, append-nil}
use Rattle.world.specs.Answer.{spaced}
use Rattle.world.proofs.AnswerLemmas.{put-is, word-put}
use Rattle.world.proofs.answer.put_spaced.Goals as goal

pub loop-word-init : goal.loop-word-init
unfolding spaced
loop-word-init c = sym (append-nil c.args.line.now.items)

pub loop-word-preserved : goal.loop-word-preserved
loop-word-preserved c =
    word-put (λ word. word.now) c.args.words.now c.loop-word.word-index _ c.args.line.now.items c.loop-word.line.items c.extend_from_slice.new.self.items _ c.loop-word-test.true c.loop-word.invariant
    (put-is c.loop-word.line.items c.extend_from_slice.new.self.items c.as_slice.result.now _ c.in_ok-extend_from_slice.ensures.items c.as_slice.ensures) c.in_ok-extend_from_slice-2.ensures.items
