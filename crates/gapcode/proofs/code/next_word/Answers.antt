use Rattle.std.proofs.Common.{◌≡◌, ◌∙◌, ℕ, List, ◌+◌, ◌-◌, ◌/◌, ◌%◌, ◌++◌, length, take, drop, ap, arith}
use Rattle.std.specs.Prelude.{replicate}
use Rattle.std.proofs.lemmas.List.{take_rest}
use Rattle.gapcode.specs.Bits.{bits_of}
use Rattle.gapcode.proofs.WordsLemmas.{window_fast, window_slow}
use Rattle.gapcode.proofs.code.next_word.Goals as goal

pub returns-then-index-bytes : goal.returns-then-index-bytes
returns-then-index-bytes c =
    let p = c.args.position in
    let nine : p / 8 + 9 - p / 8 ≡ 9 = omega arith in
    c.shifted_word.ensures ∙ ap (λ (k : ℕ). take 64 (drop (p % 8) (bits_of (take k (drop (p / 8) c.args.bytes.now))))) nine ∙ window_fast c.args.bytes.now p c.if-index-bytes.true

pub returns-else-index-bytes : goal.returns-else-index-bytes
returns-else-index-bytes c =
    let p = c.args.position in
    let tail = take_rest c.args.bytes.now (p / 8) in
    let nine = c.padded.ensures ∙ ap (λ (t : List ℕ). t ++ replicate (9 - length t) 0) tail in
    c.shifted_word-else-index-bytes.ensures ∙ ap (λ (t : List ℕ). take 64 (drop (p % 8) (bits_of t))) nine ∙ window_slow c.args.bytes.now p c.if-index-bytes.false c.requires
