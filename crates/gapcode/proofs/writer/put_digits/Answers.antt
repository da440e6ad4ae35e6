use Rattle.std.proofs.Common.{◌≡◌, ◌∙◌, ℕ, List, true, is_ok, ◌+◌, ◌/◌, ◌%◌, ◌++◌, ap, arith}
use Rattle.gapcode.proofs.AppendingLemmas.{put_bits, cut_small, put_is}
use Rattle.gapcode.proofs.writer.put_digits.Goals as goal

pub split_bits-whole-requires-clause-small : goal.split_bits-whole-requires-clause-small
split_bits-whole-requires-clause-small c = cut_small c.args.last c.args.used c.args.value c.args.n c.requires.used c.requires.n c.requires.last c.requires.value

pub returns-clause-bits : goal.returns-clause-bits
returns-clause-bits c =
    let ok : is_ok c.extend_from_slice.result ≡ true = c.extend_from_slice.ensures.succeeds (omega arith) in
    let items = rw ok at c.extend_from_slice.ensures.items in
    let e = items ∙ ap (λ (t : List ℕ). c.args.full.now.items ++ t) c.split_at.ensures.back in
    let b = c.to_be_bytes-bytes.ensures in
    put_is c.args.full.now.items _ _ _ _ ((c.args.used + c.args.n) / 8) ((c.args.used + c.args.n) % 8) _ _ _ e b c.split_bits-whole.ensures.whole c.split_bits-whole.ensures.left (put_bits c.args.full.now.items c.args.last c.args.used c.args.value c.args.n c.requires.used c.requires.n c.requires.value)
