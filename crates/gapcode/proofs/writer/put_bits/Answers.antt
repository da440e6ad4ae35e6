use Rattle.std.proofs.Common.{◌∙◌, ◌*◌, ◌/◌, ◌%◌, ◌++◌, ℕ, Bool, List, take, ap, append_assoc}
use Rattle.std.proofs.lemmas.List.{take_rest}
use Rattle.gapcode.specs.Bits.{digits, bits_of}
use Rattle.gapcode.proofs.JoinLemmas.{bits_cut}
use Rattle.gapcode.proofs.writer.put_bits.Goals as goal

pub returns-clause-ok : goal.returns-clause-ok
returns-clause-ok c =
    let w = c.writer.inside in
    let bytes = c.args.bytes.now in
    let q = c.args.count / 64 in
    let n = c.args.count % 64 in
    let start = bits_of w.full.items ++ digits w.used w.last in
    let words = take (64 * q) (bits_of bytes) in
    let rest = c.first_bits-rest.ensures.bits ∙ ap (λ (t : List ℕ). take n (bits_of t)) (take_rest bytes (8 * q)) in
    let before = c.put_words-left.ensures.bits ∙ ap (λ (t : List ℕ). (bits_of t ++ digits w.used w.last) ++ words) c.in_ok-reserve.ensures.items in
    c.put_digits-last.ensures.bits ∙ ap (λ (t : List Bool). t ++ digits n c.first_bits-rest.result) before
    ∙ append_assoc start words (digits n c.first_bits-rest.result)
    ∙ ap (λ (t : List Bool). start ++ t) (ap (λ (t : List Bool). words ++ t) rest ∙ bits_cut bytes c.args.count)
    ∙ ap (λ (t : List Bool). t ++ take c.args.count (bits_of bytes)) c.writer.view_is
