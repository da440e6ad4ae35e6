use Rattle.std.proofs.Common.{◌≡◌, true, is_ok, arith}
use Rattle.gapcode.proofs.JoinLemmas.{word_put}
use Rattle.gapcode.proofs.writer.put_word.Goals as goal

pub returns-clause-bits : goal.returns-clause-bits
returns-clause-bits c =
    let ok : is_ok c.extend_from_slice.result ≡ true = c.extend_from_slice.ensures.succeeds (omega arith) in
    let items = rw ok at c.extend_from_slice.ensures.items in
    word_put c.args.full.now.items _ _ c.args.last c.args.used _ _ c.args.word c.requires.used (omega arith) items c.to_be_bytes.ensures c.split_bits-whole.ensures.whole c.split_bits-whole.ensures.left
