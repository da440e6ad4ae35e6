use Rattle.std.proofs.Common.{◌∙◌, ℕ, List, ◌*◌, ◌++◌, ap, arith}
use Rattle.std.proofs.lemmas.List.{take_rest}
use Rattle.gapcode.specs.Bits.{digits, bits_of, window_of}
use Rattle.gapcode.proofs.JoinLemmas.{words_put}
use Rattle.gapcode.proofs.writer.put_words.Goals as goal

pub loop-i-preserved : goal.loop-i-preserved
loop-i-preserved c =
    let start = bits_of c.args.full.now.items ++ digits c.args.used c.args.last in
    let read = c.next_word.ensures ∙ ap (λ (t : List ℕ). window_of (bits_of t)) (take_rest c.args.bytes.now (8 * c.loop-i.i)) in
    record {
      last = c.put_word-left.ensures.last;
      bits = words_put start _ _ c.args.bytes.now c.loop-i.i c.next_word.result (omega (arith, c.requires.inside, c.loop-i-test.true)) read c.loop-i.invariant.bits c.put_word-left.ensures.bits;
      longer = omega (arith, c.put_word-left.ensures.longer, c.loop-i.invariant.longer);
      room = omega (arith, c.put_word-left.ensures.room, c.loop-i.invariant.room);
    }
